use Rattle.std.proofs.Common.{arith}
use Rattle.std.proofs.lemmas.Grind.{common_steps}
use Rattle.std.specs.Option.{option_map}
use Rattle.job_frame.proofs.BehindReads.{finds_told, read_fails}
use Rattle.job_frame.proofs.FileReads.{named_read}
use Rattle.mixed_run.proofs.CheckMixedFinds.{check_mixed_found, proof_fails}
use Rattle.command_line.specs.JobValue.{mixed_value}
use Rattle.command_line.specs.Words.{MixedJob}
use Rattle.mixed_run.proofs.check.check_plan.Goals as goal

pub returns-in-Err : goal.returns-in-Err
returns-in-Err g c = λ files plan_bytes read read_plan has.
    let job : MixedJob = mixed_value c.args.job.now in
    let before = g.S.Shelf.state c.args.shelf.now in
    let after = g.S.Shelf.state c.read_file.new.shelf in
    read_fails (proof_fails job before after files plan_bytes c.args.kinds.now (option_map (λ p. p.now) c.args.plan) read read_plan has)
    c.as_str.ensures.value c.in-Err.ensures.fault c.in-Err.ensures.stays c.in-Err.ensures.falls c.in-Err.ensures.files

pub returns-in-Ok-judge_text : goal.returns-in-Ok-judge_text
returns-in-Ok-judge_text g c = λ files plan_bytes read read_plan has.
    let job : MixedJob = mixed_value c.args.job.now in
    let before = g.S.Shelf.state c.args.shelf.now in
    let cert_bytes = c.in-Ok.bytes.items in
    let answer = c.in-Ok-judge_text.answer in
    let read_cert = named_read _ _ _ _ _ c.as_str.ensures.value c.in-Ok.ensures.bytes in
    let found = check_mixed_found job before.files files plan_bytes cert_bytes c.as_slice.result.now answer.status answer.text.items read read_plan read_cert c.as_slice.ensures.value
    (c.in-Ok-judge_text.ensures.answers job.limit files plan_bytes has) in
    finds_told found c.in-Ok-judge_text.ensures.answered c.in-Ok-judge_text.ensures.heard c.alone.ensures.answer c.alone.ensures.files
    c.in-Ok.ensures.stays c.in-Ok.ensures.falls c.in-Ok.ensures.files

pub returns : goal.returns
returns = grind (arith, common_steps)
