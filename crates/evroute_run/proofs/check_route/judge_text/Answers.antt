use Rattle.std.proofs.Common.{◌⊎◌}
use Rattle.evroute_run.proofs.CheckRouteFinds.{refused_answers}
use Rattle.evroute_run.specs.CheckRouteAnswer.{HearsBrokenProof}
use Rattle.evroute_causes.proofs.Hearing.{refusal_is_heard}
use Rattle.evroute_causes.specs.Heard.{HearsDone}
use Rattle.evroute_run.proofs.check_route.judge_text.Goals as goal

pub returns-in-Ok-clause-answers : goal.returns-in-Ok-clause-answers
returns-in-Ok-clause-answers c = λ options word file task start.
    c.judge.ensures.answers options word file c.args.bytes.now task start c.in-Ok.ensures.read c.in-Ok.ensures.spelled

pub returns-in-Err-Refused-clause-answers : goal.returns-in-Err-Refused-clause-answers
returns-in-Err-Refused-clause-answers c = λ options word file task start.
    refused_answers options word file c.args.bytes.now c.in-Err-Refused.field-0 c.in-Err-Refused.refusal c.refuse.result
    c.in-Err-Refused.field-0-is (c.in-Err-Refused.ensures.ended options word file task) c.refuse.ensures.status c.refuse.ensures.text

pub returns-in-Err-Refused-clause-heard : goal.returns-in-Err-Refused-clause-heard
returns-in-Err-Refused-clause-heard c =
    refusal_is_heard (λ s text heard. HearsBrokenProof s text heard ⊎ HearsDone s text heard) c.in-Err-Refused.refusal c.refuse.result
    c.refuse.ensures.status c.refuse.ensures.text c.refuse.ensures.cause
