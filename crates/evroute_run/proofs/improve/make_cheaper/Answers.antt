use Rattle.std.proofs.Common.{List, Option, subst, arith}
use Rattle.std.proofs.lemmas.Grind.{common_steps}
use Rattle.std.specs.Option.{option_map}
use Rattle.ev_model.specs.Fleet.{cost_of}
use Rattle.evroute_run.proofs.Hearing.{alone_is_heard, improved_is_heard}
use Rattle.evroute_run.proofs.ImproveFinds.{no_plan_of, puts_alone, puts_improved, same_routes}
use Rattle.plan_check.specs.FleetRules.{stops_of}
use Rattle.route_improve.specs.Improved.{CostsNoMore, IsAnswer}
use Rattle.route_improve.specs.declared.improving.Improved.{Improved}
use Rattle.route_plan.specs.declared.plan.RoutePlan.{RoutePlan}
use Rattle.evroute_run.proofs.improve.make_cheaper.Goals as goal

pub returns-in-Ok-Plan-clause-answers : goal.returns-in-Ok-Plan-clause-answers
returns-in-Ok-Plan-clause-answers t c = λ limit file plan_bytes has.
    let g = c.args.inst.now in
    let better = c.in-Ok-Plan.better in
    let answer = subst (λ (found : Improved). IsAnswer g (option_map (λ p. p.now.routes) c.args.plan) found) c.in-Ok-Plan.field-0-is c.in-Ok-Plan.ensures in
    let no_more = subst (λ (from : Option (List RoutePlan)). CostsNoMore g from (cost_of g 1 (stops_of better.routes))) (same_routes c.args.plan) answer.1 in
    puts_improved limit c.args.outfile.now file plan_bytes g (option_map (λ p. p.now) c.args.plan) c.args.was better c.write_better.result
    has c.requires answer.0 no_more c.write_better.ensures.status c.write_better.ensures.files c.write_better.ensures.text

pub returns-in-Ok-Alone-clause-answers : goal.returns-in-Ok-Alone-clause-answers
returns-in-Ok-Alone-clause-answers t c = λ limit file plan_bytes has.
    let g = c.args.inst.now in
    let answer = subst (λ (found : Improved). IsAnswer g (option_map (λ p. p.now.routes) c.args.plan) found) c.in-Ok-Alone.field-0-is c.in-Ok-Alone.ensures in
    puts_alone limit c.args.outfile.now file plan_bytes g (option_map (λ p. p.now) c.args.plan) c.in-Ok-Alone.node c.put_alone.result
    has (no_plan_of c.args.plan answer.0) answer.1 c.put_alone.ensures.status c.put_alone.ensures.files c.put_alone.ensures.text

pub write_better-requires : goal.write_better-requires
write_better-requires = grind (arith, common_steps)

pub returns-in-Ok-Plan-clause-heard : goal.returns-in-Ok-Plan-clause-heard
returns-in-Ok-Plan-clause-heard t c = improved_is_heard c.write_better.result c.write_better.ensures.status c.write_better.ensures.cause

pub returns-in-Ok-Alone-clause-heard : goal.returns-in-Ok-Alone-clause-heard
returns-in-Ok-Alone-clause-heard t c = alone_is_heard c.in-Ok-Alone.node c.put_alone.result c.put_alone.ensures.status c.put_alone.ensures.text c.put_alone.ensures.cause
