use Rattle.evroute_run.proofs.Task.{match_none, match_some, puts_infeasible, puts_plan}
use Rattle.ev_model.specs.Fastest.{HasNoPlan, IsFastest}
use Rattle.evroute_run.proofs.fixed.charge_from.Goals as goal

pub returns-in-Some-clause-ok : goal.returns-in-Some-clause-ok
returns-in-Some-clause-ok c = λ options word bytes task start.
    let route = c.args.route.now in
    let found = match_some c.in-Ok.plan c.in-Some.plan (HasNoPlan c.args.inst.now route c.args.start) (λ plan. IsFastest c.args.inst.now route c.args.start plan.stops) c.in-Some.is c.in-Ok.ensures in
    puts_plan options word bytes c.args.inst.now c.args.route.now c.args.start task start c.in-Some.plan.stops found c.report_plan.result c.report_plan.ensures.status c.report_plan.ensures.text

pub returns-in-None-clause-ok : goal.returns-in-None-clause-ok
returns-in-None-clause-ok c = λ options word bytes task start.
    let route = c.args.route.now in
    let found = match_none c.in-Ok.plan (HasNoPlan c.args.inst.now route c.args.start) (λ plan. IsFastest c.args.inst.now route c.args.start plan.stops) c.in-None.is c.in-Ok.ensures in
    puts_infeasible options word bytes c.args.inst.now c.args.route.now c.args.start task start found c.infeasible.result c.infeasible.ensures.status c.infeasible.ensures.text
