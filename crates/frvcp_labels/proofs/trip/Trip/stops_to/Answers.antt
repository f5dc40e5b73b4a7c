use Rattle.std.proofs.Common.{◌≡◌, ◌∙◌, ◌<◌, List, sym, ap, subst, arith, reverse}
use Rattle.std.proofs.lemmas.Option.{same_Some, slice_get_within}
use Rattle.ev_model.specs.Network.{node_count}
use Rattle.ev_model.specs.declared.Stop.{Stop}
use Rattle.piece_fn.specs.PieceFn.{level_times}
use Rattle.label_pool.proofs.Elements.{element_at}
use Rattle.route_steps.specs.declared.state.State.{State}
use Rattle.frvcp_labels.proofs.WaysBack.{IsTraced, IsTurn, origin_at, traced_back, traced_home, traced_start, turn_is}
use Rattle.frvcp_labels.proofs.trip.Trip.stops_to.Goals as goal

pub loop-parent-init : goal.loop-parent-init
loop-parent-init c =
    let label = element_at c.args.pool.now.labels c.args.home c.requires.known in
    let first : c.least-level.result.0 ≡ (level_times label.0.value.value).first = c.least-level.ensures.level ∙ ap (λ (s : State). (level_times s.value).first) (c.value.ensures label.0 label.1) in
    subst (λ (ss : List Stop). IsTraced c.args.self.now c.args.pool.now.labels c.args.home c.args.home c.least-level.result.0 ss) (sym (ap reverse c.new-stops.ensures.items))
    (traced_home c.args.self.now c.args.pool.now.labels c.requires.pool.labels c.requires.pool.trip c.args.home c.least-level.result.0 label.0 label.1 (c.requires.home label.0 label.1) first)

pub parent-requires : goal.parent-requires
parent-requires c = slice_get_within c.args.pool.now.labels c.loop-parent.at c.loop-parent.invariant.label c.loop-parent.invariant.here

pub value-from-requires : goal.value-from-requires
value-from-requires c =
    let from = origin_at c.args.self.now c.args.pool.now.labels c.requires.pool.labels c.requires.pool.trip c.loop-parent.at c.in-Some.parent c.loop-parent.invariant.label c.parent.result c.loop-parent.invariant.here
    (c.parent.ensures.parent c.loop-parent.invariant.label c.loop-parent.invariant.here) c.in-Some.is in
    slice_get_within c.args.pool.now.labels c.in-Some.parent from.0 from.1

pub value-to-requires : goal.value-to-requires
value-to-requires c = slice_get_within c.args.pool.now.labels c.loop-parent.at c.loop-parent.invariant.label c.loop-parent.invariant.here

abbrev turn : (c : goal.After-energy) → IsTurn c.args.self.now c.args.pool.now.labels c.requires.pool.labels c.requires.pool.trip c.loop-parent.at c.in-Some.parent c.loop-parent.level c.value-from.result.now c.value-to.result.now c.added_at-added.result c.energy.result
turn c =
    turn_is c.args.self.now c.args.pool.now.labels c.requires.pool.labels c.requires.pool.trip c.args.home c.loop-parent.at c.in-Some.parent c.loop-parent.level (reverse c.loop-parent.stops.items) c.parent.result c.value-from.result.now c.value-to.result.now
    c.added_at-added.result c.energy.result c.loop-parent.invariant c.parent.ensures.parent c.in-Some.is c.value-from.ensures c.value-to.ensures c.added_at-added.ensures.value c.energy.ensures

pub overflow_add-level : goal.overflow_add-level
overflow_add-level c =
    let is = turn c in
    let before = (c.requires.pool.labels c.in-Some.parent is.from is.from_here).state.levels _ (is.step.comes c.loop-parent.level is.is) in
    let small = c.requires.pool.trip.network.small_capacity in
    let same = is.before in
    omega (arith, before, small, same)

pub energy-requires-clause-left : goal.energy-requires-clause-left
energy-requires-clause-left c =
    let from = origin_at c.args.self.now c.args.pool.now.labels c.requires.pool.labels c.requires.pool.trip c.loop-parent.at c.in-Some.parent c.loop-parent.invariant.label c.parent.result c.loop-parent.invariant.here
    (c.parent.ensures.parent c.loop-parent.invariant.label c.loop-parent.invariant.here) c.in-Some.is in
    subst (λ (s : State). s.node < node_count c.args.self.now.network) (sym (c.value-from.ensures from.0 from.1)) (c.requires.pool.labels c.in-Some.parent from.0 from.1).state.node

pub energy-requires-clause-reached : goal.energy-requires-clause-reached
energy-requires-clause-reached c =
    let label = c.loop-parent.invariant.label in
    let here = c.loop-parent.invariant.here in
    subst (λ (s : State). s.node < node_count c.args.self.now.network) (sym (c.value-to.ensures label here)) (c.requires.pool.labels c.loop-parent.at label here).state.node

pub loop-parent-preserved : goal.loop-parent-preserved
loop-parent-preserved c =
    traced_back c.args.self.now c.args.pool.now.labels c.requires.pool.labels c.requires.pool.trip c.args.home c.loop-parent.at c.in-Some.parent c.loop-parent.level c.loop-parent.stops.items c.push.new.self.items c.value-from.result.now c.value-to.result.now
    c.added_at-added.result c.energy.result c.loop-parent.invariant (turn c) (same_Some (turn c).label c.loop-parent.invariant.label (sym (turn c).here ∙ c.loop-parent.invariant.here)) c.in_ok-push.ensures.items

pub returns : goal.returns
returns c label here =
    traced_start c.args.self.now c.args.pool.now.labels c.requires.pool.labels c.requires.pool.trip c.args.home c.loop-parent.at c.loop-parent.level c.loop-parent.stops.items c.push-2.new.self.items c.reverse.new.self.items c.parent.result label
    c.loop-parent.invariant c.parent.ensures.parent c.in_default.is c.in_ok-push-2.ensures.items c.reverse.ensures.items here
