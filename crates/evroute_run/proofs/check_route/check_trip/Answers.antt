use Rattle.std.proofs.Common.{List, ℕ, subst, sym, arith}
use Rattle.std.proofs.lemmas.Grind.{common_steps}
use Rattle.std.specs.Prelude.{string_bytes}
use Rattle.command_line.specs.Words.{ProofJob, proof_job_of}
use Rattle.evroute_run.proofs.CheckRouteFinds.{check_route_found, proof_fails}
use Rattle.evroute_run.specs.FixedAnswer.{IsTask}
use Rattle.job_frame.proofs.BehindReads.{finds_told, read_fails}
use Rattle.job_frame.proofs.FileReads.{named_read}
use Rattle.evroute_run.proofs.check_route.check_trip.Goals as goal

pub returns-in-Err : goal.returns-in-Err
returns-in-Err g c = λ bytes read task start.
    let w = c.args.job.now in
    let job : ProofJob = proof_job_of (string_bytes w.file) (string_bytes w.route) (string_bytes w.cert) w.options in
    let before = g.S.Shelf.state c.args.shelf.now in
    let after = g.S.Shelf.state c.read_file.new.shelf in
    read_fails (proof_fails job before after bytes c.args.trip.now.inst c.args.trip.now.route.items read task)
    c.as_str.ensures.value c.in-Err.ensures.fault c.in-Err.ensures.stays c.in-Err.ensures.falls c.in-Err.ensures.files

pub returns-in-Ok-judged : goal.returns-in-Ok-judged
returns-in-Ok-judged g c = λ bytes read task start.
    let w = c.args.job.now in
    let job : ProofJob = proof_job_of (string_bytes w.file) (string_bytes w.route) (string_bytes w.cert) w.options in
    let before = g.S.Shelf.state c.args.shelf.now in
    let cert_bytes = c.in-Ok.bytes.items in
    let answer = c.in-Ok-judged.answer in
    let read_cert = named_read _ _ _ _ _ c.as_str.ensures.value c.in-Ok.ensures.bytes in
    let here = subst (λ (r : List ℕ). IsTask w.options job.route bytes c.args.trip.now.inst r) (sym c.as_slice.ensures.value) task in
    let found = check_route_found job before.files bytes cert_bytes c.as_slice-2.result.now answer.status answer.text.items read read_cert c.as_slice-2.ensures.value
    (c.in-Ok-judged.ensures.answers w.options job.route bytes here start) in
    finds_told found c.in-Ok-judged.ensures.answered c.in-Ok-judged.ensures.heard c.alone.ensures.answer c.alone.ensures.files
    c.in-Ok.ensures.stays c.in-Ok.ensures.falls c.in-Ok.ensures.files

pub returns : goal.returns
returns = grind (arith, common_steps)
