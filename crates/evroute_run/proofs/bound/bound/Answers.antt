use Rattle.std.proofs.Common.{refl, arith}
use Rattle.std.proofs.lemmas.Grind.{common_steps}
use Rattle.std.specs.Prelude.{string_bytes}
use Rattle.command_line.specs.Words.{BoundJob, bound_job_of}
use Rattle.evroute_run.proofs.BoundFinds.{bound_found, bound_refused, found_is_answered, found_writes_one}
use Rattle.job_frame.proofs.BehindReads.{finds_found, finds_refused, first_fails}
use Rattle.job_frame.proofs.FileReads.{named_read}
use Rattle.job_frame.specs.Finds.{outcome_of}
use Rattle.evroute_causes.proofs.Hearing.{its_rule}
use Rattle.evroute_run.proofs.bound.bound.Goals as goal

pub returns-in-Err : goal.returns-in-Err
returns-in-Err g c = first_fails refl tt c.as_str.ensures.value c.in-Err.ensures.fault c.in-Err.ensures.stays c.in-Err.ensures.falls c.in-Err.ensures.files

pub returns-in-Ok-bound_on : goal.returns-in-Ok-bound_on
returns-in-Ok-bound_on g c =
    let w = c.args.job.now in
    let job : BoundJob = bound_job_of (string_bytes w.file) (string_bytes w.cert) w.near w.limit in
    let before = g.S.Shelf.state c.args.shelf.now in
    let bytes = c.in-Ok.bytes.items in
    let read = named_read _ _ _ _ _ c.as_str.ensures.value c.in-Ok.ensures.bytes in
    let o = outcome_of c.in-Ok-bound_on.found in
    let inst = c.in-Ok-fleet_instance.inst in
    let told = c.in-Ok-bound_on.ensures.found in
    finds_found
    (found_is_answered inst job.near job.cert o.status o.writes o.text told)
    (bound_found job before.files bytes c.as_slice.result.now inst o.status o.writes o.text
    read c.as_slice.ensures.value c.in-Ok-fleet_instance.ensures.ok told)
    c.in-Ok-bound_on.ensures.heard
    (found_writes_one inst job.near job.cert o.status o.writes o.text told)
    c.in-Ok.ensures.stays c.in-Ok.ensures.falls c.in-Ok.ensures.files

pub returns-in-Err-Refused : goal.returns-in-Err-Refused
returns-in-Err-Refused g c =
    let w = c.args.job.now in
    let job : BoundJob = bound_job_of (string_bytes w.file) (string_bytes w.cert) w.near w.limit in
    let before = g.S.Shelf.state c.args.shelf.now in
    let bytes = c.in-Ok.bytes.items in
    let read = named_read _ _ _ _ _ c.as_str.ensures.value c.in-Ok.ensures.bytes in
    finds_refused
    (bound_refused job before.files bytes c.as_slice.result.now c.in-Err-Refused.field-0 c.in-Err-Refused.refusal
    read c.as_slice.ensures.value c.in-Err-Refused.field-0-is c.in-Err-Refused.ensures.ended)
    (its_rule c.in-Err-Refused.refusal) c.refuse_job.ensures.cause c.refuse_job.ensures.status c.refuse_job.ensures.text c.refuse_job.ensures.files c.refuse_job.ensures.memory
    c.in-Ok.ensures.stays c.in-Ok.ensures.falls c.in-Ok.ensures.files

pub returns-in-Ok-fleet_instance : goal.returns-in-Ok-fleet_instance
returns-in-Ok-fleet_instance = grind (arith, common_steps)

pub returns : goal.returns
returns = grind (arith, common_steps)
