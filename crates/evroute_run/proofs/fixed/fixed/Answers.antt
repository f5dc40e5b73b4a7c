use Rattle.std.proofs.Common.{List, ℕ, refl, subst, arith}
use Rattle.std.proofs.lemmas.Grind.{common_steps}
use Rattle.std.specs.Prelude.{string_bytes}
use Rattle.command_line.specs.Words.{FixedJob, job_with}
use Rattle.evroute_run.proofs.FixedFinds.{fixed_found}
use Rattle.evroute_run.specs.FixedAnswer.{FixedAnswers}
use Rattle.job_frame.proofs.BehindReads.{finds_told, first_fails}
use Rattle.job_frame.proofs.FileReads.{named_read}
use Rattle.evroute_run.proofs.fixed.fixed.Goals as goal

pub returns-in-Err : goal.returns-in-Err
returns-in-Err g c = first_fails refl tt c.as_str.ensures.value c.in-Err.ensures.fault c.in-Err.ensures.stays c.in-Err.ensures.falls c.in-Err.ensures.files

pub returns-in-Ok-answer_to : goal.returns-in-Ok-answer_to
returns-in-Ok-answer_to g c =
    let w = c.args.job.now in
    let job : FixedJob = job_with (string_bytes w.file) (string_bytes w.route) w.options in
    let before = g.S.Shelf.state c.args.shelf.now in
    let bytes = c.in-Ok.bytes.items in
    let answer = c.in-Ok-answer_to.answer in
    let read = named_read _ _ _ _ _ c.as_str.ensures.value c.in-Ok.ensures.bytes in
    let worded = subst (λ (word : List ℕ). FixedAnswers w.options word c.as_slice.result.now answer.status answer.text.items) c.as_str-2.ensures.value c.in-Ok-answer_to.ensures.answers in
    finds_told
    (fixed_found job before.files bytes c.as_slice.result.now answer.status answer.text.items read c.as_slice.ensures.value worded)
    c.in-Ok-answer_to.ensures.answered c.in-Ok-answer_to.ensures.heard c.alone.ensures.answer c.alone.ensures.files
    c.in-Ok.ensures.stays c.in-Ok.ensures.falls c.in-Ok.ensures.files

pub returns : goal.returns
returns = grind (arith, common_steps)
