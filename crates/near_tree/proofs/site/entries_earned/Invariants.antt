use Rattle.std.proofs.Common.{◌≡◌, ◌≤◌, ◌*◌, ◌^◌, ◌+ℤ◌, drop, map, unsigned_abs}
use Rattle.near_tree.specs.Counting.{counted_as}
use Rattle.near_tree.specs.Follows.{entries_earned}
use Rattle.near_tree.specs.Lasts.{last_at}
use Rattle.near_tree.proofs.site.entries_earned.Given as goal

abbrev pub invariant-loop-i : goal.invariant-loop-i
invariant-loop-i l = record {
  sum : l.sum +ℤ entries_earned (map counted_as (drop l.i l.counted)) (drop l.i l.prices) (last_at l.customers l.last) l.next ≡ entries_earned (map counted_as l.counted) l.prices (last_at l.customers l.last) l.next;
  small : unsigned_abs l.sum ≤ l.i * 2 ^ 84;
}
