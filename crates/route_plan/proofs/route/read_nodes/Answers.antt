use Rattle.std.proofs.Common.{◌≡◌, ◌++◌, ◌∷◌, [], ap, ◌∙◌, refl}
use Rattle.std.proofs.lemmas.Bool.{false≢true}
use Rattle.route_plan.proofs.PlanReading.{begins, ends, goes_on}
use Rattle.route_plan.proofs.route.read_nodes.Goals as goal

pub loop-scan-init : goal.loop-scan-init
loop-scan-init c =
    let first = c.in_ok-first.first in
    let only : c.push_node.new.nodes.items ≡ first ∷ [] = c.in_ok-push_node.ensures.ok ∙ ap (λ xs. xs ++ first ∷ []) c.new-nodes.ensures.items in
    begins c.args.word.now c.push_node.new.nodes.items first c.new-scan.result c.take_node.new.scan c.new-scan.ensures c.in_ok-first.ensures.ok c.in_ok-first.ensures.no_longer only

pub loop-scan-preserved : goal.loop-scan-preserved
loop-scan-preserved c =
    goes_on c.args.word.now c.loop-scan.nodes.items c.push_node-in-loop-scan.new.nodes.items c.in_ok-next.next c.loop-scan.scan c.take_next.new.scan
    c.loop-scan.invariant (λ none. false≢true (c.loop-scan-test.ensures.rest.1 none)) c.in_ok-next.ensures.ok c.in_ok-next.ensures.shorter c.in_ok-push_node-2.ensures.ok

pub returns-clause-ok : goal.returns-clause-ok
returns-clause-ok c = ends c.args.word.now c.loop-scan.nodes.items c.loop-scan.scan c.loop-scan.invariant (c.loop-scan-test.ensures.rest.0 refl)
