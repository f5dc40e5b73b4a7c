use Rattle.std.proofs.Common.{◌+◌, subst, sym, take, arith}
use Rattle.std.proofs.lemmas.Grind.{common_steps, elements}
use Rattle.route_plan.specs.declared.plan.RoutePlan.{RoutePlan}
use Rattle.master_table.specs.declared.listed.ListedRoute.{ListedRoute}
use Rattle.certificate_check.specs.Columns.{AreListed}
use Rattle.certificate_check.specs.Routes.{IsListedRoute}
use Rattle.certificate_check.proofs.Zips.{zip_more}
use Rattle.certificate_check.proofs.wide.listed_routes.Goals as goal

pub loop-column-preserved : goal.loop-column-preserved
loop-column-preserved c =
    let g = c.args.inst.now in
    subst (AreListed g (take (c.loop-column.column-index + 1) c.args.columns.now)) (sym c.in_ok-push.ensures.items)
    (zip_more (λ (p : RoutePlan) (r : ListedRoute). IsListedRoute g p.stops r) c.args.columns.now c.loop-column.column-index c.column-item.result c.loop-column.routes.items c.in-Some.route c.loop-column-test.true c.column-item.is
    (subst (λ stops. IsListedRoute g stops c.in-Some.route) c.as_slice.ensures c.in-Some.ensures.route) c.loop-column.invariant)

pub returns : goal.returns
returns = grind (arith, common_steps)

pub returns-in_default : goal.returns-in_default
returns-in_default = grind (arith, elements)
