use Rattle.std.proofs.Common.{Bool, subst}
use Rattle.std.specs.Option.{is_some, option_map}
use Rattle.evgap_run.proofs.PlanFinds.{puts_plan, start_costs}
use Rattle.evgap_run.specs.PlanAnswer.{IsPlanFound, plan_heard}
use Rattle.gap_words.specs.JobValue.{plan_value}
use Rattle.evgap_run.proofs.Refusals.{found_is_heard}
use Rattle.evgap_run.proofs.plan.plan_judged.Goals as goal

pub returns-clause-answers : goal.returns-clause-answers
returns-clause-answers g c = λ bytes more has.
    let start = option_map (λ p. p.now) c.args.start in
    let valid = start_costs c.args.inst.now c.args.start c.requires in
    let planned = c.in_ok-planned.planned in
    let found = subst (λ (may_end : Bool). IsPlanFound c.args.inst.now (option_map (λ p. p.now) c.args.start) may_end planned.plan.items planned.cert.items planned.answer.status planned.answer.text.items)
    c.is_some.ensures c.in_ok-planned.ensures.found in
    puts_plan (plan_value c.args.job.now) bytes more c.args.inst.now start valid.0 planned.plan.items planned.cert.items c.as_str.result.now c.as_str-2.result.now planned.answer c.found.result
    has valid.1 found c.as_str.ensures.value c.as_str-2.ensures.value c.found.ensures.answer c.found.ensures.files

pub returns-clause-heard : goal.returns-clause-heard
returns-clause-heard g c = found_is_heard (plan_heard (is_some c.args.job.now.seconds)) c.in_ok-planned.planned.answer c.found.result c.found.ensures.answer
    (subst (λ (may_end : Bool). plan_heard may_end c.in_ok-planned.planned.answer.status c.in_ok-planned.planned.answer.text.items c.in_ok-planned.planned.answer.cause) c.is_some.ensures c.in_ok-planned.ensures.heard)
