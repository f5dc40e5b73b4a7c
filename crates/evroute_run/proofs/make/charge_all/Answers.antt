use Rattle.std.proofs.Common.{◌∙◌}
use Rattle.evroute_run.proofs.MadeInstances.{is_route_of_all, puts_no_time, puts_time}
use Rattle.evroute_run.proofs.make.charge_all.Goals as goal

pub returns-in-Some-clause-answers : goal.returns-in-Some-clause-answers
returns-in-Some-clause-answers c = λ job same makes.
    puts_time job c.args.customers c.args.inst.now c.as_slice.result.now c.max_q.result c.in_ok-plan.field-0 c.in-Some.plan same makes (c.as_slice.ensures.value ∙ c.in_ok-route.ensures)
    c.max_q.ensures.value c.in-Some.is c.in_ok-plan.ensures c.report_time.result c.report_time.ensures.status c.report_time.ensures.text

pub returns-clause-answers : goal.returns-clause-answers
returns-clause-answers c = λ job same makes.
    puts_no_time job c.args.customers c.args.inst.now c.as_slice.result.now c.max_q.result c.in_ok-plan.field-0 same makes (c.as_slice.ensures.value ∙ c.in_ok-route.ensures)
    c.max_q.ensures.value c.in-None.is c.in_ok-plan.ensures c.report_no_time.result c.report_no_time.ensures.status c.report_no_time.ensures.text

pub solve_route-requires-clause-route : goal.solve_route-requires-clause-route
solve_route-requires-clause-route c =
    is_route_of_all c.args.inst.now c.args.customers c.as_slice.result.now c.requires.some c.requires.nodes (c.as_slice.ensures.value ∙ c.in_ok-route.ensures)
