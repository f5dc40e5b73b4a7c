use Rattle.std.proofs.Common.{arith, rules, ◌≡◌, ◌≢◌, ◌+◌, ◌-◌, Err}
use Rattle.ev_text.specs.Readers.{so_many}
use Rattle.route_plan.specs.PlanReading.{or_bad}
use Rattle.route_plan.specs.declared.text.plan_text.PlanText.TheVariants.{Memory}
use Rattle.mixed_model.specs.MixedReading.{mixed_route_at}
use Rattle.mixed_model.proofs.PlanReading.{begins_routes, ends_routes, next_route, no_route}
use Rattle.mixed_model.proofs.plan_text.reading.take_each_route.Goals as goal

pub loop-init : goal.loop-init
loop-init c = begins_routes c.args.kinds c.args.scan.now c.args.count (c.args.count - 0) c.new-routes.result.items (omega arith) c.new-routes.ensures.items

pub loop-preserved : goal.loop-preserved
loop-preserved c =
    next_route c.args.kinds c.args.scan.now c.loop.scan c.take_route.new.scan c.args.count (c.args.count - c.loop.counter) (c.args.count - (c.loop.counter + 1)) c.loop.routes.items c.push.new.self.items c.in_ok-route.route
    (omega arith) c.loop.invariant c.in_ok-route.ensures.ok c.in_ok-push.ensures.items

pub returns-in_err-route-clause-fault : goal.returns-in_err-route-clause-fault
returns-in_err-route-clause-fault c =
    let fault = c.in_err-route.field-0.0 in
    let broken : fault ≢ Memory → or_bad (so_many c.args.count (mixed_route_at c.args.kinds) c.args.scan.now) ≡ Err fault =
    λ known. no_route c.args.kinds c.args.scan.now c.loop.scan c.args.count (c.args.count - c.loop.counter) (c.args.count - (c.loop.counter + 1)) c.loop.routes.items fault (omega arith) c.loop.invariant (c.in_err-route.ensures.fault known) in
    search rules

pub returns-clause-ok : goal.returns-clause-ok
returns-clause-ok c = ends_routes c.args.kinds c.args.scan.now c.loop.scan c.args.count _ c.loop.routes.items (omega arith) c.loop.invariant
