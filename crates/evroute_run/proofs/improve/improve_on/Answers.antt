use Rattle.std.specs.Prelude.{string_bytes}
use Rattle.command_line.specs.Words.{ImproveJob, improve_job_of}
use Rattle.evroute_run.proofs.ImproveFinds.{improve_found, plan_read_fails}
use Rattle.job_frame.proofs.BehindReads.{finds_made, read_fails}
use Rattle.job_frame.proofs.FileReads.{named_read}
use Rattle.evroute_run.proofs.improve.improve_on.Goals as goal

pub returns-in-Err : goal.returns-in-Err
returns-in-Err g c = λ bytes read network.
    let w = c.args.job.now in
    let job : ImproveJob = improve_job_of (string_bytes w.file) (string_bytes w.plan) (string_bytes w.outfile) w.limit in
    let before = g.S.Shelf.state c.args.shelf.now in
    let after = g.S.Shelf.state c.read_file.new.shelf in
    read_fails (plan_read_fails job before after bytes c.args.inst.now read network)
    c.as_str.ensures.value c.in-Err.ensures.fault c.in-Err.ensures.stays c.in-Err.ensures.falls c.in-Err.ensures.files

pub returns : goal.returns
returns g c = λ bytes read network.
    let w = c.args.job.now in
    let job : ImproveJob = improve_job_of (string_bytes w.file) (string_bytes w.plan) (string_bytes w.outfile) w.limit in
    let before = g.S.Shelf.state c.args.shelf.now in
    let plan_bytes = c.in-Ok.bytes.items in
    let read_plan = named_read _ _ _ _ _ c.as_str.ensures.value c.in-Ok.ensures.bytes in
    finds_made c.improve_text.result
    (improve_found job before.files bytes plan_bytes c.as_str-2.result.now c.as_slice.result.now c.improve_text.result
    read read_plan c.as_str-2.ensures.value c.as_slice.ensures.value (c.improve_text.ensures.answers w.limit bytes network) c.improve_text.ensures.heard)
    c.improve_text.ensures.memory
    c.in-Ok.ensures.stays c.in-Ok.ensures.falls c.in-Ok.ensures.files
