use Rattle.std.proofs.Common.{◌≡◌, ◌++◌, map, drop}
use Rattle.std.specs.List.{flat_map}
use Rattle.instance_text.specs.Spelling.{request_line}
use Rattle.seq_io.specs.Line.{spelled_line}
use Rattle.instance_text.proofs.writing.put_requests.Given as goal

-- the lines so far and those of the requests that are left are all
abbrev pub invariant-loop-request : goal.invariant-loop-request
invariant-loop-request l = l.text.items ++ flat_map spelled_line (map request_line (drop l.request-index l.requests)) ≡ l.fn.text.items ++ flat_map spelled_line (map request_line l.requests)
