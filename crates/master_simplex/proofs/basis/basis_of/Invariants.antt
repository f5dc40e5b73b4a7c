use Rattle.std.proofs.Common.{◌≡◌, take}
use Rattle.master_simplex.proofs.basis.basis_of.Given as goal

abbrev pub invariant-loop-row : goal.invariant-loop-row
invariant-loop-row l = l.basis.items ≡ take l.row l.t.basis
