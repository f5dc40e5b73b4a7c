use Rattle.std.proofs.Common.{◌≡◌, drop}
use Rattle.near_tree.specs.Branches.{count_of}
use Rattle.tree_text.specs.Ways.{counted_in}
use Rattle.tree_text.proofs.ways.range_of.Given as goal

abbrev pub invariant-loop-c : goal.invariant-loop-c
invariant-loop-c l = count_of (counted_in (drop l.c-index l.counted)) l.set ≡ count_of (counted_in l.counted) l.set
