use Rattle.customer_sets.specs.Pairs.{any_pair}
use Rattle.branching.proofs.Plans.{is_branch, keeps_node}
use Rattle.branching.proofs.laws.a_fleet_keeps_the_pairs_of_a_node.Goals as goal

pub returns : goal.returns
returns c = λ g t k plans is all fleet.
    keeps_node g t.customers t.nodes any_pair t.tree plans is.under
    (c.a_fleet_keeps_some_leaf.ensures g t.tree k plans (is_branch g t.customers t.nodes any_pair t.tree all is.under) fleet)
