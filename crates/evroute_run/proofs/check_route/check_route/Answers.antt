use Rattle.std.proofs.Common.{List, ℕ, refl, subst, arith}
use Rattle.std.proofs.lemmas.Grind.{common_steps}
use Rattle.std.specs.Prelude.{string_bytes}
use Rattle.command_line.specs.Words.{ProofJob, proof_job_of}
use Rattle.evroute_run.proofs.CheckRouteFinds.{refused_early}
use Rattle.evroute_run.specs.FixedAnswer.{IsTask}
use Rattle.job_frame.proofs.BehindReads.{finds_behind, finds_refused, first_fails}
use Rattle.job_frame.proofs.FileReads.{named_read, read_still}
use Rattle.evroute_causes.proofs.Hearing.{its_rule}
use Rattle.evroute_run.proofs.check_route.check_route.Goals as goal

pub returns-in-Err : goal.returns-in-Err
returns-in-Err g c = first_fails refl tt c.as_str.ensures.value c.in-Err.ensures.fault c.in-Err.ensures.stays c.in-Err.ensures.falls c.in-Err.ensures.files

pub returns-in-Ok-trip_of : goal.returns-in-Ok-trip_of
returns-in-Ok-trip_of g c =
    let w = c.args.job.now in
    let bytes = c.in-Ok.bytes.items in
    let trip = c.in-Ok-trip_of.trip in
    let read = named_read _ _ _ _ _ c.as_str.ensures.value c.in-Ok.ensures.bytes in
    let here = subst (λ (bs : List ℕ). IsTask w.options c.as_str-2.result.now bs trip.inst trip.route.items) c.as_slice.ensures.value c.in-Ok-trip_of.ensures.task in
    let task = subst (λ (word : List ℕ). IsTask w.options word bytes trip.inst trip.route.items) c.as_str-2.ensures.value here in
    finds_behind c.in-Ok.ensures.files c.in-Ok.ensures.stays c.in-Ok.ensures.falls
    (c.check_trip.ensures bytes (read_still _ _ _ _ _ c.in-Ok.ensures.files read) task c.in-Ok-trip_of.ensures.start)

pub returns-in-Err-Refused : goal.returns-in-Err-Refused
returns-in-Err-Refused g c =
    let w = c.args.job.now in
    let job : ProofJob = proof_job_of (string_bytes w.file) (string_bytes w.route) (string_bytes w.cert) w.options in
    let before = g.S.Shelf.state c.args.shelf.now in
    let bytes = c.in-Ok.bytes.items in
    let read = named_read _ _ _ _ _ c.as_str.ensures.value c.in-Ok.ensures.bytes in
    let line = refused_early job before.files bytes c.as_slice.result.now c.as_str-2.result.now c.in-Err-Refused.field-0 c.in-Err-Refused.refusal
    read c.as_slice.ensures.value c.as_str-2.ensures.value c.in-Err-Refused.field-0-is c.in-Err-Refused.ensures.ended in
    finds_refused line (its_rule c.in-Err-Refused.refusal) c.refuse_job.ensures.cause c.refuse_job.ensures.status c.refuse_job.ensures.text c.refuse_job.ensures.files c.refuse_job.ensures.memory
    c.in-Ok.ensures.stays c.in-Ok.ensures.falls c.in-Ok.ensures.files

pub returns : goal.returns
returns = grind (arith, common_steps)
