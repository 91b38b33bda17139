use Rattle.std.proofs.Common.{arith}
use Rattle.std.proofs.lemmas.List.{take_rest}
use Rattle.seq_io.proofs.Pieces.{grows}
use Rattle.seq_io.proofs.writing.write_whole.Goals as goal

-- what the sink took moves from the rest to the front
pub loop-rest-preserved : goal.loop-rest-preserved
loop-rest-preserved g c = record {
  done = grows (g.K.Sink.written c.args.sink.now) (g.K.Sink.written c.loop-rest.sink) (g.K.Sink.written c.write.new.self) c.args.bytes.now c.loop-rest.rest.now _ c.in-Ok.n c.loop-rest.invariant.done c.in-Ok.ensures.appended (take_rest c.loop-rest.rest.now c.in-Ok.n);
  faults = omega (arith, c.in-Ok.ensures.cause.kept (λ no. cc));
}
