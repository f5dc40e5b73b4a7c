use Rattle.std.proofs.Common.{[], refl}
use Rattle.evgap_run.proofs.PlanFinds.{found_from_none, has_none, named_start, unnamed_start}
use Rattle.gap_words.specs.JobValue.{plan_value}
use Rattle.job_frame.proofs.BehindReads.{finds_made}
use Rattle.job_frame.proofs.FileReads.{nothing_fails, nothing_falls}
use Rattle.evgap_run.proofs.plan.plan_on.Goals as goal

pub returns-in-Some : goal.returns-in-Some
returns-in-Some g c = λ bytes read fleet.
    c.plan_from_file.ensures bytes read fleet (named_start c.args.job.now c.in-Some.name c.as_str.result.now c.in-Some.is c.as_str.ensures.value)

pub returns-in-None : goal.returns-in-None
returns-in-None g c = λ bytes read fleet.
    let job = plan_value c.args.job.now in
    let before = g.S.Shelf.state c.args.shelf.now in
    let none = unnamed_start c.args.job.now c.in-None.is in
    finds_made {bytes = bytes} c.plan_from_none.result
    (found_from_none job before.files bytes c.plan_from_none.result c.requires.files none read
    (c.plan_from_none.ensures.answers bytes [] (has_none job bytes c.args.inst.now none fleet)) c.plan_from_none.ensures.heard)
    c.plan_from_none.ensures.memory (λ failed. nothing_fails before) (nothing_falls before) refl
