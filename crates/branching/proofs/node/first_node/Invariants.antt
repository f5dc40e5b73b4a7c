use Rattle.std.proofs.Common.{◌≡◌, None}
use Rattle.slab.specs.Slab.{entries}
use Rattle.branching.specs.Walk.{first_from}
use Rattle.branching.proofs.node.first_node.Given as goal

-- a walk over the entries that are left answers what one over all does
abbrev pub invariant-loop-key : goal.invariant-loop-key
invariant-loop-key l =
    (goal.iterator-loop-key).can_next l.key-iterator ×
    (goal.iterator-loop-key).is_finite l.key-iterator ×
    (first_from l.taken_too l.first l.key-iterator ≡ first_from l.taken_too None (entries l.nodes))
