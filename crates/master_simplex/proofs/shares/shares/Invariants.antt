use Rattle.std.specs.Prelude.{◌≡◌}
use Rattle.master_simplex.specs.Sharing.{given}
use Rattle.master_simplex.proofs.shares.shares.Given as goal

abbrev pub invariant-loop-row : goal.invariant-loop-row
invariant-loop-row l = l.found.items ≡ given l.t l.over l.row
