use Rattle.std.proofs.Common.{◌≤◌, ◌^◌, List, length, sym, subst, arith}
use Rattle.plan_schedule.specs.Totals.{AreRouteSums, AreSmall, route_totals}
use Rattle.plan_schedule.specs.declared.schedule.Visit.{Visit}
use Rattle.plan_schedule.proofs.RouteTimes.{small_route}
use Rattle.plan_schedule.proofs.Sums.{small_sums}
use Rattle.plan_schedule.proofs.plan.route_schedule.Goals as goal

sums : (c : goal.After-as_slice-2) → AreRouteSums (route_totals c.in_ok-visits.visits.items)
sums c =
    let count : length c.in_ok-visits.visits.items ≤ 2 ^ 64 = omega arith in
    small_route c.args.inst.now c.args.start c.args.stops.now c.in_ok-visits.visits.items c.in_ok-visits.ensures.value c.in_ok-visits.ensures.within c.requires.feasible c.nodes-nodes.ensures.network.small_limit count

pub route_totals-totals-requires : goal.route_totals-totals-requires
route_totals-totals-requires c =
    subst (λ (vs : List Visit). AreSmall (route_totals vs)) (sym c.as_slice-2.ensures.value) (small_sums (route_totals c.in_ok-visits.visits.items) (sums c))

pub returns-clause-small : goal.returns-clause-small
returns-clause-small c =
    let count : length c.in_ok-visits.visits.items ≤ 2 ^ 64 = omega arith in
    let small = small_route c.args.inst.now c.args.start c.args.stops.now c.in_ok-visits.visits.items c.in_ok-visits.ensures.value c.in_ok-visits.ensures.within c.requires.feasible c.nodes-nodes.ensures.network.small_limit count in
    let seen = subst (λ (vs : List Visit). AreRouteSums (route_totals vs)) (sym c.as_slice-2.ensures.value) small in
    subst AreRouteSums (sym c.route_totals-totals.ensures) seen
