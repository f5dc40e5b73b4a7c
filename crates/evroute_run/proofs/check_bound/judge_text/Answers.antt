use Rattle.evroute_run.proofs.CheckBoundFinds.{refused_answers}
use Rattle.evroute_run.proofs.Endings.{check_bound_at_proof}
use Rattle.evroute_run.specs.CheckBoundAnswer.{HearsNearVerdict}
use Rattle.evroute_causes.proofs.Hearing.{refusal_is_heard}
use Rattle.evroute_run.proofs.check_bound.judge_text.Goals as goal

pub returns-in-Ok-clause-answers : goal.returns-in-Ok-clause-answers
returns-in-Ok-clause-answers c = λ limit file fleet.
    c.judge.ensures.answers limit file c.args.bytes.now fleet c.in-Ok.ensures.has

pub returns-in-Err-Refused-clause-answers : goal.returns-in-Err-Refused-clause-answers
returns-in-Err-Refused-clause-answers c = λ limit file fleet.
    refused_answers limit file c.args.bytes.now c.in-Err-Refused.field-0 c.in-Err-Refused.refusal c.refuse.result
    c.in-Err-Refused.field-0-is (check_bound_at_proof limit file c.args.bytes.now c.args.inst.now c.in-Err-Refused.field-0 fleet c.in-Err-Refused.ensures.rule c.in-Err-Refused.ensures.ended) c.refuse.ensures.status c.refuse.ensures.text

pub returns-in-Err-Refused-clause-heard : goal.returns-in-Err-Refused-clause-heard
returns-in-Err-Refused-clause-heard c = refusal_is_heard HearsNearVerdict c.in-Err-Refused.refusal c.refuse.result c.refuse.ensures.status c.refuse.ensures.text c.refuse.ensures.cause
