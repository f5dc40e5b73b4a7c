use Rattle.std.specs.Option.{option_map}
use Rattle.evgap_run.proofs.CheckFinds.{report_answers}
use Rattle.evgap_run.proofs.Hearing.{judgement_is_heard}
use Rattle.tree_text.specs.BoundProofs.{bound_of}
use Rattle.evgap_run.proofs.judging.report_on.Goals as goal

pub returns-clause-answers : goal.returns-clause-answers
returns-clause-answers c = λ limit file plan_bytes bytes fleet has.
    report_answers limit file plan_bytes bytes c.args.inst.now (option_map (λ p. p.now) c.args.plan) c.args.proof.now
    c.in_ok-judgement.judgement c.report.result fleet has c.in_ok-judgement.ensures.found c.report.ensures.status c.report.ensures.text

pub returns-clause-heard : goal.returns-clause-heard
returns-clause-heard c =
    judgement_is_heard c.args.inst.now.denominator (bound_of c.args.proof.now) c.in_ok-judgement.judgement c.report.result c.report.ensures.status c.report.ensures.text c.report.ensures.cause
