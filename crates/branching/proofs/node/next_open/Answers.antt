use Rattle.std.proofs.Common.{false, subst, sym}
use Rattle.std.proofs.lemmas.Bool.{false≢true}
use Rattle.branching.specs.Walk.{IsFirst}
use Rattle.branching.proofs.Walk.{some_is_open}
use Rattle.branching.proofs.node.next_open.Goals as goal

pub returns-in-Some-clause-none : goal.returns-in-Some-clause-none
returns-in-Some-clause-none c =
    let nodes = c.args.nodes.now.slots in
    let first = subst (IsFirst nodes false) c.in-Some.is c.first_node.ensures in
    (λ e. absurd (false≢true (sym e)), λ none. absurd (some_is_open nodes (c.in-Some.key, c.in-Some.field-0-1) first none))
