use Rattle.std.proofs.Common.{◌≡◌, ◌≤◌, ◌*◌, ◌^◌, ◌+ℤ◌, drop, map, unsigned_abs}
use Rattle.near_tree.specs.Bounds.{entries_total}
use Rattle.near_tree.specs.Counting.{counted_as}
use Rattle.near_tree.proofs.bound.entries_total.Given as goal

abbrev pub invariant-loop-i : goal.invariant-loop-i
invariant-loop-i l = record {
  sum : l.sum +ℤ entries_total (map counted_as (drop l.i l.counted)) (drop l.i l.prices) ≡ entries_total (map counted_as l.counted) l.prices;
  small : unsigned_abs l.sum ≤ l.i * 2 ^ 93;
}
