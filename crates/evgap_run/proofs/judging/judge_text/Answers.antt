use Rattle.std.specs.Option.{option_map}
use Rattle.evgap_run.proofs.CheckFinds.{refused_answers}
use Rattle.evgap_run.specs.Judged.{HearsJudgement}
use Rattle.evgap_run.proofs.Refusals.{refusal_is_heard}
use Rattle.evgap_run.proofs.judging.judge_text.Goals as goal

pub returns-in-Ok-clause-answers : goal.returns-in-Ok-clause-answers
returns-in-Ok-clause-answers c = λ limit file plan_bytes fleet.
    c.report_on.ensures.answers limit file plan_bytes c.args.bytes.now fleet c.in-Ok.ensures.has

pub returns-in-Err-Refused-clause-answers : goal.returns-in-Err-Refused-clause-answers
returns-in-Err-Refused-clause-answers c = λ limit file plan_bytes fleet.
    refused_answers limit file plan_bytes c.args.bytes.now c.args.inst.now (option_map (λ p. p.now) c.args.plan) c.in-Err-Refused.field-0 c.in-Err-Refused.refusal c.refuse.result
    fleet c.in-Err-Refused.field-0-is c.in-Err-Refused.ensures.rule c.in-Err-Refused.ensures.ended c.refuse.ensures.status c.refuse.ensures.text

pub returns-in-Err-Refused-clause-heard : goal.returns-in-Err-Refused-clause-heard
returns-in-Err-Refused-clause-heard c = refusal_is_heard HearsJudgement c.in-Err-Refused.refusal c.refuse.result c.refuse.ensures.status c.refuse.ensures.text c.refuse.ensures.cause
