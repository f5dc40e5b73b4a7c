use Rattle.std.proofs.Common.{◌≡◌, ◌∙◌, ◌*◌, ◌<◌, ◌≤◌, ap, arith, subst, sym}
use Rattle.std.proofs.lemmas.Grind.{common_steps}
use Rattle.std.specs.List.{All}
use Rattle.ev_model.specs.Feasible.{IsFeasible}
use Rattle.ev_model.specs.Network.{Network, node_count}
use Rattle.ev_model.specs.Time.{time_of}
use Rattle.frvcp_labels.specs.Bounds.{lists_in}
use Rattle.frvcp_labels.proofs.WayLaw.{no_rate, plan_below}
use Rattle.frvcp_labels.proofs.WayTables.{layers_count, layers_square}
use Rattle.frvcp_labels.proofs.bounds.RouteBounds.bound.Goals as goal

pub sum-time-requires-clause-depot : goal.sum-time-requires-clause-depot
sum-time-requires-clause-depot c =
    let count = layers_count c.self.inside.inst.now 0 c.self.inside.by_time.layers.items c.self.invariant.by_time_are in
    omega (arith, count, c.nodes-nodes.ensures.some, c.nodes-nodes.ensures.value)

pub sum-time-requires-clause-entries : goal.sum-time-requires-clause-entries
sum-time-requires-clause-entries c = layers_square c.self.inside.inst.now 0 c.self.inside.by_time.layers.items c.self.invariant.by_time_are

pub sum-requires-clause-depot : goal.sum-requires-clause-depot
sum-requires-clause-depot c =
    let count = layers_count c.self.inside.inst.now c.self.inside.by_charge.rate c.self.inside.by_charge.layers.items c.self.invariant.by_charge_are in
    omega (arith, count, c.nodes-nodes.ensures.some, c.nodes-nodes.ensures.value)

pub sum-requires-clause-entries : goal.sum-requires-clause-entries
sum-requires-clause-entries c = layers_square c.self.inside.inst.now c.self.inside.by_charge.rate c.self.inside.by_charge.layers.items c.self.invariant.by_charge_are

pub returns : goal.returns
returns c stops feasible follows =
    let known = subst (λ (h : Network). All (λ node. node < node_count h) c.args.order.now) (sym c.self.view_is) c.requires in
    let drives = subst (λ (h : Network). IsFeasible h 1 h.capacity stops) (sym c.self.view_is) feasible in
    let depot : 0 < node_count c.self.inside.inst.now = omega (arith, c.nodes-nodes.ensures.some, c.nodes-nodes.ensures.value) in
    let time = plan_below c.self.inside.inst.now 0 (lists_in c.self.inside.by_time.layers.items) (no_rate c.self.inside.inst.now) c.self.invariant.by_time_are c.args.order.now stops depot known drives follows in
    let charge = plan_below c.self.inside.inst.now c.self.inside.by_charge.rate (lists_in c.self.inside.by_charge.layers.items) c.self.invariant.is_rate c.self.invariant.by_charge_are c.args.order.now stops
    depot known drives follows in
    let rate : c.from-rate.result ≡ c.self.inside.by_charge.rate = omega arith in
    let home : c.from.result ≡ c.self.inside.inst.now.home_level = omega (arith, c.home_q.ensures.value) in
    let full : c.from-2.result ≡ c.self.inside.inst.now.capacity = omega (arith, c.max_q.ensures) in
    let at_home : c.from-rate.result * c.from.result ≡ c.self.inside.by_charge.rate * c.self.inside.inst.now.home_level =
    ap (λ x. x * c.from.result) rate ∙ ap (λ x. c.self.inside.by_charge.rate * x) home in
    let at_start : c.from-rate.result * c.from-2.result ≡ c.self.inside.by_charge.rate * c.self.inside.inst.now.capacity =
    ap (λ x. x * c.from-2.result) rate ∙ ap (λ x. c.self.inside.by_charge.rate * x) full in
    subst (λ (h : Network). c.max.result ≤ time_of h 1 h.capacity stops) c.self.view_is
    (omega (arith, time, charge, at_home, at_start, c.sum-time.ensures.value, c.sum.ensures.value))

pub sum-time-requires-clause-known : goal.sum-time-requires-clause-known
sum-time-requires-clause-known = grind (arith, common_steps)

pub sum-requires-clause-known : goal.sum-requires-clause-known
sum-requires-clause-known = grind (arith, common_steps)
