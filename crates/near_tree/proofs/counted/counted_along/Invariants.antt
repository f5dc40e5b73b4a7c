use Rattle.std.proofs.Common.{drop}
use Rattle.near_tree.proofs.Counting.{IsCountedTo}
use Rattle.near_tree.proofs.counted.counted_along.Given as goal

abbrev pub invariant-loop-turn : goal.invariant-loop-turn
invariant-loop-turn l = IsCountedTo l.path (drop l.turn-index l.path) l.counted.items
