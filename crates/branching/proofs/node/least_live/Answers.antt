use Rattle.std.proofs.Common.{true, subst, sym}
use Rattle.std.proofs.lemmas.Bool.{false≢true}
use Rattle.branching.specs.Walk.{IsFirst}
use Rattle.branching.proofs.Walk.{some_is_live}
use Rattle.branching.proofs.node.least_live.Goals as goal

pub returns-in-Some-clause-none : goal.returns-in-Some-clause-none
returns-in-Some-clause-none c =
    let nodes = c.args.nodes.now.slots in
    let first = subst (IsFirst nodes true) c.in-Some.is c.first_node.ensures in
    (λ e. absurd (false≢true (sym e)), λ none. absurd (some_is_live nodes (c.in-Some.field-0-0, c.in-Some.bound) first none))
