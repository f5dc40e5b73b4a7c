use Rattle.std.specs.Option.{option_map}
use Rattle.mixed_run.proofs.AcceptedAnswers.{refused_answers}
use Rattle.mixed_run.proofs.Hearing.{refusal_is_heard}
use Rattle.mixed_run.specs.CheckMixedAnswer.{HearsMixedJudgement}
use Rattle.mixed_run.specs.declared.refusal.MixedRefusal.TheVariants.{Plain}
use Rattle.mixed_run.proofs.judging.judge_text.Goals as goal

pub returns-in-Ok-clause-answers : goal.returns-in-Ok-clause-answers
returns-in-Ok-clause-answers c = λ limit files plan_bytes has.
    c.report_on.ensures.answers limit files plan_bytes c.args.bytes.now has c.in-Ok.ensures.ok

pub returns-in-Err-Refused-clause-answers : goal.returns-in-Err-Refused-clause-answers
returns-in-Err-Refused-clause-answers c = λ limit files plan_bytes has.
    refused_answers limit files c.args.kinds.now (option_map (λ p. p.now) c.args.plan) plan_bytes c.args.bytes.now c.in-Err-Refused.field-0 c.in-Err-Refused.refusal c.refuse.result
    has c.in-Err-Refused.field-0-is c.in-Err-Refused.ensures.rule c.in-Err-Refused.ensures.ended c.refuse.ensures.status c.refuse.ensures.text

pub returns-in-Err-Refused-clause-heard : goal.returns-in-Err-Refused-clause-heard
returns-in-Err-Refused-clause-heard c = refusal_is_heard HearsMixedJudgement (Plain c.in-Err-Refused.refusal) c.refuse.result c.refuse.ensures.status c.refuse.ensures.text c.refuse.ensures.cause
