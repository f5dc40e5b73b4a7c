use Rattle.std.specs.Io.KnownBytes.{Keeps}
use Rattle.ev_outside.proofs.answers.read_piece.Given as goal

abbrev pub invariant-loop : goal.invariant-loop
invariant-loop g l = record {
  kept : Keeps (g.F.Read.remaining l.initial.from) (g.F.Read.remaining l.from);
}
