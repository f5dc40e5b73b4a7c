use Rattle.std.proofs.Common.{◌≡◌, drop}
use Rattle.near_tree.specs.Counting.{find_same}
use Rattle.near_tree.proofs.counted.place_of.Given as goal

abbrev pub invariant-loop-at : goal.invariant-loop-at
invariant-loop-at l = find_same l.at (drop l.at l.counted) l.set ≡ find_same 0 l.counted l.set
