use Rattle.std.proofs.Common.{rules, List, sym, subst}
use Rattle.std.specs.List.Sorted.{IsStrictlyIncreasing}
use Rattle.instance_reader.specs.Instance.{customer_nodes}
use Rattle.route_plan.specs.declared.plan.RoutePlan.{RoutePlan}
use Rattle.ev_fleet.specs.OwnRoutes.{AreFastestOwn}
use Rattle.ev_fleet.specs.Plans.{IsHeld}
use Rattle.ev_fleet.proofs.Owned.{own_held}
use Rattle.ev_fleet.proofs.own.own_plan.Goals as goal

pub returns-clause-held : goal.returns-clause-held
returns-clause-held c =
    let own : AreFastestOwn c.args.inst.now (customer_nodes c.args.inst.now) c.in-Some.routes.items = search rules in
    let rising : IsStrictlyIncreasing (customer_nodes c.args.inst.now) = subst IsStrictlyIncreasing c.customers-customers.ensures.value c.customers-customers.ensures.rising in
    subst (λ (l : List RoutePlan). IsHeld c.args.inst.now (record { routes = l })) (sym c.from_vec.ensures)
    (own_held c.args.inst.now (record { routes = c.in-Some.routes.items }) c.nodes-nodes.ensures.network rising own)
