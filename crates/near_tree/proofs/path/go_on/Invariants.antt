use Rattle.std.proofs.Common.{length}
use Rattle.near_tree.proofs.Paths.{IsShorter}
use Rattle.near_tree.proofs.path.go_on.Given as goal

abbrev pub invariant-loop-turn : goal.invariant-loop-turn
invariant-loop-turn l = IsShorter l.initial.path.items l.path.items

abbrev pub decreases-loop-turn : goal.decreases-loop-turn
decreases-loop-turn l = length l.path.items
