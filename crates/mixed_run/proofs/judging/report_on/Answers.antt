use Rattle.std.proofs.Common.{arith}
use Rattle.std.specs.Option.{option_map}
use Rattle.mixed_model.proofs.KindNumbers.{kind_is}
use Rattle.mixed_run.proofs.AcceptedAnswers.{report_answers}
use Rattle.mixed_run.proofs.Hearing.{judgement_is_heard}
use Rattle.mixed_run.proofs.judging.report_on.Goals as goal

pub returns-clause-answers : goal.returns-clause-answers
returns-clause-answers c = λ limit files plan_bytes bytes has read.
    let kinds = c.args.kinds.now in
    let first = c.index-kinds-0.result in
    report_answers limit files plan_bytes bytes kinds first (option_map (λ p. p.now) c.args.plan) c.args.proof.now
    c.in_ok-judgement.judgement c.report.result (kind_is kinds 0 first (omega (arith, c.requires.kinds.some)) c.index-kinds-0.is)
    has read c.in_ok-judgement.ensures.found c.report.ensures.status c.report.ensures.text

pub returns-clause-heard : goal.returns-clause-heard
returns-clause-heard c =
    judgement_is_heard c.index-kinds-0.result.denominator c.in_ok-judgement.judgement c.report.result c.report.ensures.status c.report.ensures.text c.report.ensures.cause
