use Rattle.std.proofs.Common.{rules, ◌≡◌, ◌≢◌, ◌∙◌, ◌++◌, ◌∷◌, [], Err, List, ap, subst, sym, true}
use Rattle.certificate_parts.specs.Refusals.{or_refused}
use Rattle.certificate_parts.specs.declared.cert_text.CertText.TheVariants.{Memory}
use Rattle.tree_text.specs.Reading.{nodes_at}
use Rattle.tree_text.specs.Standing.{IsWay}
use Rattle.tree_text.specs.Ways.{counted_in}
use Rattle.tree_text.specs.declared.ways.CountedSet.{CountedSet}
use Rattle.tree_text.proofs.NodeLoops.{go_on_with, nodes-begin, nodes-break_with, nodes-end, nodes-top, nodes-tree, shorter_with, small_count, top_is_some, top_is_way}
use Rattle.tree_text.proofs.reading.take_nodes.Goals as goal

pub loop-last-init : goal.loop-last-init
loop-last-init c =
    nodes-begin c.args.inst.now c.args.scan.now c.new-nodes.result.items c.push-2.new.self.items c.push.new.self.items c.new-nodes.ensures.items
    (c.in_ok-push-2.ensures.items ∙ ap (λ xs. xs ++ true ∷ []) c.new-lasts.ensures.items)
    (c.in_ok-push.ensures.items ∙ ap (λ xs. xs ++ c.new.result ∷ []) c.new-ways.ensures.items ∙ ap (λ x. x ∷ []) c.new.ensures)

pub top_way-requires : goal.top_way-requires
top_way-requires c =
    let top = nodes-top c.args.inst.now c.args.scan.now c.loop-last.scan c.loop-last.nodes.items c.loop-last.lasts.items c.pop.new.self.items c.in-Some.last c.loop-last.ways.items c.in-Some.ensures.items c.loop-last.invariant in
    λ none. top_is_some c.args.inst.now c.pop.new.self.items c.in-Some.last c.loop-last.ways.items top (sym c.deref.ensures.value ∙ none)

pub take_node-requires : goal.take_node-requires
take_node-requires c =
    let top = nodes-top c.args.inst.now c.args.scan.now c.loop-last.scan c.loop-last.nodes.items c.loop-last.lasts.items c.pop.new.self.items c.in-Some.last c.loop-last.ways.items c.in-Some.ensures.items c.loop-last.invariant in
    subst (λ (w : List CountedSet). IsWay c.args.inst.now (counted_in w)) (sym (c.top_way.ensures top.rest top.way (c.deref.ensures.value ∙ top.ends)))
    (top_is_way c.args.inst.now c.args.scan.now c.loop-last.scan c.loop-last.nodes.items c.loop-last.lasts.items c.pop.new.self.items c.in-Some.last c.loop-last.ways.items c.in-Some.ensures.items c.loop-last.invariant top)

pub open_below-requires-clause-top : goal.open_below-requires-clause-top
open_below-requires-clause-top c =
    let top = nodes-top c.args.inst.now c.args.scan.now c.loop-last.scan c.loop-last.nodes.items c.loop-last.lasts.items c.pop.new.self.items c.in-Some.last c.loop-last.ways.items c.in-Some.ensures.items c.loop-last.invariant in
    top_is_some c.args.inst.now c.pop.new.self.items c.in-Some.last c.loop-last.ways.items top

pub open_below-requires-clause-small : goal.open_below-requires-clause-small
open_below-requires-clause-small c =
    let top = nodes-top c.args.inst.now c.args.scan.now c.loop-last.scan c.loop-last.nodes.items c.loop-last.lasts.items c.pop.new.self.items c.in-Some.last c.loop-last.ways.items c.in-Some.ensures.items c.loop-last.invariant in
    let way = subst (λ (w : List CountedSet). IsWay c.args.inst.now (counted_in w)) (sym (c.top_way.ensures top.rest top.way (c.deref.ensures.value ∙ top.ends)))
    (top_is_way c.args.inst.now c.args.scan.now c.loop-last.scan c.loop-last.nodes.items c.loop-last.lasts.items c.pop.new.self.items c.in-Some.last c.loop-last.ways.items c.in-Some.ensures.items c.loop-last.invariant top) in
    small_count c.args.inst.now c.nodes-nodes.ensures.network (counted_in c.top_way.result.now) c.in_ok-node.node way c.in_ok-node.ensures.stands

pub returns-in_err-node-clause-fault : goal.returns-in_err-node-clause-fault
returns-in_err-node-clause-fault c =
    let top = nodes-top c.args.inst.now c.args.scan.now c.loop-last.scan c.loop-last.nodes.items c.loop-last.lasts.items c.pop.new.self.items c.in-Some.last c.loop-last.ways.items c.in-Some.ensures.items c.loop-last.invariant in
    let fault = c.in_err-node.field-0.0 in
    let broken : fault ≢ Memory → or_refused (nodes_at c.args.inst.now c.args.scan.now) ≡ Err fault =
    λ known. nodes-break_with c.args.inst.now c.args.scan.now c.loop-last.scan c.loop-last.nodes.items c.loop-last.lasts.items c.pop.new.self.items c.in-Some.last c.loop-last.ways.items fault c.in-Some.ensures.items c.loop-last.invariant top
    c.top_way.result.now (c.top_way.ensures top.rest top.way (c.deref.ensures.value ∙ top.ends)) (c.in_err-node.ensures.fault known) in
    search rules

pub loop-last-smaller : goal.loop-last-smaller
loop-last-smaller c = shorter_with c.args.inst.now c.nodes-nodes.ensures.network c.top_way.result.now c.loop-last.scan c.take_node.new.scan c.in_ok-node.node c.in_ok-node.ensures.ok

pub loop-last-preserved : goal.loop-last-preserved
loop-last-preserved c =
    let top = nodes-top c.args.inst.now c.args.scan.now c.loop-last.scan c.loop-last.nodes.items c.loop-last.lasts.items c.pop.new.self.items c.in-Some.last c.loop-last.ways.items c.in-Some.ensures.items c.loop-last.invariant in
    go_on_with c.args.inst.now c.nodes-nodes.ensures.network c.args.scan.now c.loop-last.scan c.take_node.new.scan c.loop-last.nodes.items c.push-in-Some.new.self.items c.in_ok-node.node c.loop-last.lasts.items c.pop.new.self.items c.open_below.new.lasts.items c.in-Some.last c.loop-last.ways.items c.open_below.new.ways.items
    c.in-Some.ensures.items c.loop-last.invariant top c.top_way.result.now (c.top_way.ensures top.rest top.way (c.deref.ensures.value ∙ top.ends)) c.in_ok-node.ensures.ok c.in_ok-node.ensures.stands c.in_ok-node.ensures.below c.in_ok-node.ensures.fits c.in_ok-node.ensures.kept
    (c.in_ok-open_below.ensures top.rest top.way top.ends) c.in_ok-push-3.ensures.items

pub returns-clause-ok : goal.returns-clause-ok
returns-clause-ok c = nodes-end c.args.inst.now c.nodes-nodes.ensures.network c.args.scan.now c.loop-last.scan c.loop-last.nodes.items c.loop-last.lasts.items c.loop-last.ways.items (search rules) c.loop-last.invariant

pub returns-clause-tree : goal.returns-clause-tree
returns-clause-tree c = nodes-tree c.args.inst.now c.nodes-nodes.ensures.network c.args.scan.now c.loop-last.scan c.loop-last.nodes.items c.loop-last.lasts.items c.loop-last.ways.items (search rules) c.loop-last.invariant

pub returns-clause-fits : goal.returns-clause-fits
returns-clause-fits c = c.loop-last.invariant.fit

pub returns-clause-kept : goal.returns-clause-kept
returns-clause-kept c = c.loop-last.invariant.kept
