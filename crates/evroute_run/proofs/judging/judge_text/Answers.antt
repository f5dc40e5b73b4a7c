use Rattle.std.specs.Option.{option_map}
use Rattle.evroute_run.proofs.Refused.{refused_answers}
use Rattle.evroute_run.specs.CheckAnswer.{HearsJudgement}
use Rattle.evroute_causes.proofs.Hearing.{refusal_is_heard}
use Rattle.evroute_run.proofs.judging.judge_text.Goals as goal

pub returns-in-Ok-clause-answers : goal.returns-in-Ok-clause-answers
returns-in-Ok-clause-answers c = λ limit file plan_bytes fleet.
    c.report_on.ensures.answers limit file plan_bytes c.args.bytes.now fleet c.in-Ok.ensures.ok

pub returns-in-Err-Refused-clause-answers : goal.returns-in-Err-Refused-clause-answers
returns-in-Err-Refused-clause-answers c = λ limit file plan_bytes fleet.
    let ended = c.in-Err-Refused.ensures.ended limit file plan_bytes (option_map (λ p. p.now) c.args.plan) fleet in
    refused_answers limit file plan_bytes c.args.bytes.now c.in-Err-Refused.field-0 c.in-Err-Refused.refusal c.refuse.result
    c.in-Err-Refused.field-0-is ended c.refuse.ensures.status c.refuse.ensures.text

pub returns-in-Err-Refused-clause-heard : goal.returns-in-Err-Refused-clause-heard
returns-in-Err-Refused-clause-heard c = refusal_is_heard HearsJudgement c.in-Err-Refused.refusal c.refuse.result c.refuse.ensures.status c.refuse.ensures.text c.refuse.ensures.cause
