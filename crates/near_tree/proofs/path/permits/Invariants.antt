use Rattle.std.proofs.Common.{◌≡◌, drop}
use Rattle.near_tree.specs.Paths.{permits_all}
use Rattle.near_tree.proofs.path.permits.Given as goal

abbrev pub invariant-loop-turn : goal.invariant-loop-turn
invariant-loop-turn l = permits_all (drop l.turn-index l.path) l.before l.next ≡ permits_all l.path l.before l.next
