use Rattle.std.proofs.Common.{drop, ℕ, unsigned_abs}
use Rattle.master_table.proofs.Divided.{IsGcdWith}
use Rattle.master_table.proofs.rows.common_divisor.Given as goal

abbrev pub invariant-loop-x : goal.invariant-loop-x
invariant-loop-x l = (g : ℕ) → IsGcdWith l.found (drop l.x-index l.xs) g → IsGcdWith (unsigned_abs l.first) l.xs g
