use Rattle.std.proofs.Common.{◌≡◌, drop, map}
use Rattle.near_tree.specs.Counting.{counted_as}
use Rattle.near_tree.specs.Lasts.{are_counted_alike}
use Rattle.near_tree.proofs.site.are_counted_alike.Given as goal

abbrev pub invariant-loop-each : goal.invariant-loop-each
invariant-loop-each l = are_counted_alike (map counted_as (drop l.each-index l.counted)) l.one l.other ≡ are_counted_alike (map counted_as l.counted) l.one l.other
