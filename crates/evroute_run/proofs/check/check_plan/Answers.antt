use Rattle.std.proofs.Common.{arith}
use Rattle.std.proofs.lemmas.Grind.{common_steps}
use Rattle.std.specs.Option.{option_map}
use Rattle.std.specs.Prelude.{string_bytes}
use Rattle.command_line.specs.Words.{CheckJob, check_job_of}
use Rattle.evroute_run.proofs.CheckFinds.{certificate_fails, check_found}
use Rattle.job_frame.proofs.BehindReads.{finds_told, read_fails}
use Rattle.job_frame.proofs.FileReads.{named_read}
use Rattle.evroute_run.proofs.check.check_plan.Goals as goal

pub returns-in-Err : goal.returns-in-Err
returns-in-Err g c = λ bytes plan_bytes read read_plan fleet.
    let w = c.args.job.now in
    let job : CheckJob = check_job_of (string_bytes w.file) (string_bytes w.plan) (string_bytes w.cert) w.limit in
    let before = g.S.Shelf.state c.args.shelf.now in
    let after = g.S.Shelf.state c.read_file.new.shelf in
    read_fails (certificate_fails job before after bytes plan_bytes c.args.inst.now (option_map (λ p. p.now) c.args.plan) read read_plan fleet)
    c.as_str.ensures.value c.in-Err.ensures.fault c.in-Err.ensures.stays c.in-Err.ensures.falls c.in-Err.ensures.files

pub returns-in-Ok-judge_text : goal.returns-in-Ok-judge_text
returns-in-Ok-judge_text g c = λ bytes plan_bytes read read_plan fleet.
    let w = c.args.job.now in
    let job : CheckJob = check_job_of (string_bytes w.file) (string_bytes w.plan) (string_bytes w.cert) w.limit in
    let before = g.S.Shelf.state c.args.shelf.now in
    let cert_bytes = c.in-Ok.bytes.items in
    let answer = c.in-Ok-judge_text.answer in
    let read_cert = named_read _ _ _ _ _ c.as_str.ensures.value c.in-Ok.ensures.bytes in
    let found = check_found job before.files bytes plan_bytes cert_bytes c.as_slice.result.now answer.status answer.text.items read read_plan read_cert c.as_slice.ensures.value
    (c.in-Ok-judge_text.ensures.answers w.limit bytes plan_bytes fleet) in
    finds_told found c.in-Ok-judge_text.ensures.answered c.in-Ok-judge_text.ensures.heard c.alone.ensures.answer c.alone.ensures.files
    c.in-Ok.ensures.stays c.in-Ok.ensures.falls c.in-Ok.ensures.files

pub returns : goal.returns
returns = grind (arith, common_steps)
