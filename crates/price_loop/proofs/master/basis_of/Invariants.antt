use Rattle.std.proofs.Common.{◌≡◌, take}
use Rattle.price_loop.proofs.master.basis_of.Given as goal

abbrev pub invariant-loop-row : goal.invariant-loop-row
invariant-loop-row l = l.basis.items ≡ take l.row l.table.basis
