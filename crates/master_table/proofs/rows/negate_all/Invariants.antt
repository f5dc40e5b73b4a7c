use Rattle.std.proofs.Common.{◌≡◌, drop, map, neg_ℤ, ◌++◌}
use Rattle.master_table.proofs.rows.negate_all.Given as goal

abbrev pub invariant-loop-x : goal.invariant-loop-x
invariant-loop-x l = l.out.items ++ map neg_ℤ (drop l.x-index l.xs) ≡ map neg_ℤ l.xs
