use Rattle.std.proofs.Common.{◌≡◌, ◌-◌, ◌≤◌, List, ◌++◌, length, map, decimal, All}
use Rattle.manoeuvre.specs.declared.limits.TheConstants.{MAX_MANOEUVRE}
use Rattle.instance_text.specs.Shape.{Field, row_fields, line_refusal}
use Rattle.instance_text.proofs.line_kinds.entries.Given as goal

-- the entries so far were read, and the rest of the fields must follow
abbrev pub invariant-loop : goal.invariant-loop
invariant-loop l = record {
  passes : (more : List Field) → line_refusal (row_fields l.size ++ more) l.fn.line ≡ line_refusal (row_fields (l.size - l.counter) ++ more) l.line;
  tokens : l.fn.line.tokens ≡ map (λ entry. decimal entry) l.entries.items ++ l.line.tokens;
  length : length l.entries.items ≡ l.counter;
  limits : All (λ entry. entry ≤ MAX_MANOEUVRE) l.entries.items;
}
