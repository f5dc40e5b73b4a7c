use Rattle.std.proofs.Common.{List, ℕ, refl, subst}
use Rattle.evgap_run.proofs.PlanFinds.{refused_early}
use Rattle.job_frame.specs.LimitedNetwork.{HasNetwork}
use Rattle.gap_words.specs.JobValue.{plan_value}
use Rattle.job_frame.proofs.BehindReads.{finds_behind, finds_refused, first_fails}
use Rattle.evgap_run.proofs.Refusals.{its_rule}
use Rattle.job_frame.proofs.FileReads.{named_read, read_still}
use Rattle.evgap_run.proofs.plan.plan_asked.Goals as goal

pub returns-in-Err : goal.returns-in-Err
returns-in-Err g c = first_fails refl tt c.as_str.ensures.value c.in-Err.ensures.fault c.in-Err.ensures.stays c.in-Err.ensures.falls c.in-Err.ensures.files

pub returns-in-Ok-limited_instance : goal.returns-in-Ok-limited_instance
returns-in-Ok-limited_instance g c =
    let w = c.args.job.now in
    let bytes = c.in-Ok.bytes.items in
    let read = named_read _ _ _ _ _ c.as_str.ensures.value c.in-Ok.ensures.bytes in
    let fleet = subst (λ (bs : List ℕ). HasNetwork w.limit bs c.in-Ok-limited_instance.inst) c.as_slice.ensures.value c.in-Ok-limited_instance.ensures.ok in
    finds_behind c.in-Ok.ensures.files c.in-Ok.ensures.stays c.in-Ok.ensures.falls
    (c.plan_on.ensures bytes (read_still _ _ _ _ _ c.in-Ok.ensures.files read) fleet)

pub returns-in-Err-Refused : goal.returns-in-Err-Refused
returns-in-Err-Refused g c =
    let before = g.S.Shelf.state c.args.shelf.now in
    let bytes = c.in-Ok.bytes.items in
    let read = named_read _ _ _ _ _ c.as_str.ensures.value c.in-Ok.ensures.bytes in
    let line = refused_early (plan_value c.args.job.now) before.files bytes c.as_slice.result.now c.in-Err-Refused.field-0 c.in-Err-Refused.refusal
    read c.as_slice.ensures.value c.in-Err-Refused.field-0-is c.in-Err-Refused.ensures.ended in
    finds_refused line (its_rule c.in-Err-Refused.refusal) c.refuse_job.ensures.cause c.refuse_job.ensures.status c.refuse_job.ensures.text c.refuse_job.ensures.files c.refuse_job.ensures.memory
    c.in-Ok.ensures.stays c.in-Ok.ensures.falls c.in-Ok.ensures.files
