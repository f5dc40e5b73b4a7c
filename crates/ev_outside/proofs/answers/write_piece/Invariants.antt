use Rattle.std.specs.Io.KnownBytes.{Keeps}
use Rattle.ev_outside.proofs.answers.write_piece.Given as goal

abbrev pub invariant-loop : goal.invariant-loop
invariant-loop g l = record {
  kept : Keeps (g.W.Write.contents l.initial.to) (g.W.Write.contents l.to);
}
