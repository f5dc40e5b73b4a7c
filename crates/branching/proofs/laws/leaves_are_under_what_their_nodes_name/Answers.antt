use Rattle.customer_sets.specs.Pairs.{any_pair}
use Rattle.branching.proofs.Plans.{named_under}
use Rattle.branching.proofs.laws.leaves_are_under_what_their_nodes_name.Goals as goal

pub returns : goal.returns
returns c = λ t sections bound is holds.
    named_under t.customers t.nodes sections bound any_pair t.tree holds is.under
