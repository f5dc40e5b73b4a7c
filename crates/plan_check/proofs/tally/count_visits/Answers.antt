use Rattle.std.proofs.Common.{List, subst, ◌++◌, map, take, arith}
use Rattle.std.proofs.lemmas.Grind.{common_steps}
use Rattle.ev_model.specs.Fleet.{all_customers, customers_of}
use Rattle.ev_model.specs.declared.Stop.{Stop}
use Rattle.plan_check.specs.Tallies.{Tallies}
use Rattle.plan_check.proofs.VisitCounts.{all_customers-more}
use Rattle.plan_check.proofs.KnownRoutes.{known_at}
use Rattle.plan_check.proofs.tally.count_visits.Goals as goal

pub loop-plan-preserved : goal.loop-plan-preserved
loop-plan-preserved g c =
    let stops = g.R.HasStops.stops_of in
    let before = all_customers c.args.inst.now (map stops (take c.loop-plan.plan-index c.args.routes.now)) in
    rw (all_customers-more c.args.inst.now stops c.args.routes.now c.loop-plan.plan-index c.plan-item.result c.loop-plan-test.true c.plan-item.is)
    (subst (λ (l : List Stop). Tallies c.args.inst.now c.count_route.new.visits (before ++ customers_of c.args.inst.now l)) c.stops.ensures (c.count_route.ensures before c.loop-plan.invariant))

pub count_route-requires-clause-known : goal.count_route-requires-clause-known
count_route-requires-clause-known g c =
    known_at c.args.inst.now g.R.HasStops.stops_of c.args.routes.now c.loop-plan.plan-index c.plan-item.result c.stops.result.now c.loop-plan-test.true c.plan-item.is c.stops.ensures c.requires.known

pub loop-plan-init : goal.loop-plan-init
loop-plan-init = grind (arith, common_steps)

pub returns : goal.returns
returns = grind (arith, common_steps)
