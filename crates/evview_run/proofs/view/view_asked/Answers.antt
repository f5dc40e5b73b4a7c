use Rattle.std.proofs.Common.{List, ℕ, refl, subst}
use Rattle.evview_run.proofs.ViewFinds.{refused_early}
use Rattle.job_frame.proofs.BehindReads.{finds_behind, finds_refused, first_fails}
use Rattle.evview_run.specs.declared.cause.Cause.TheVariants as cause
use Rattle.job_frame.proofs.Hearing.{its_rule}
use Rattle.job_frame.proofs.FileReads.{named_read, read_still}
use Rattle.job_frame.specs.LimitedNetwork.{HasNetwork}
use Rattle.view_words.specs.JobValue.{view_value}
use Rattle.evview_run.proofs.HeldLaws.{starts_within}
use Rattle.evview_run.proofs.view.view_asked.Goals as goal

pub returns-in-Err : goal.returns-in-Err
returns-in-Err g c = first_fails refl tt c.as_str.ensures.value c.in-Err.ensures.fault c.in-Err.ensures.stays c.in-Err.ensures.falls c.in-Err.ensures.files

pub returns-in-Ok-setting_of : goal.returns-in-Ok-setting_of
returns-in-Ok-setting_of g c =
    let w = c.args.job.now in
    let bytes = c.in-Ok.bytes.items in
    let setting = c.in-Ok-setting_of.setting in
    let read = named_read _ _ _ _ _ c.as_str.ensures.value c.in-Ok.ensures.bytes in
    let network = subst (λ (bs : List ℕ). HasNetwork w.limit bs setting.inst) c.as_slice.ensures.value c.in-Ok-setting_of.ensures.network in
    finds_behind c.in-Ok.ensures.files c.in-Ok.ensures.stays c.in-Ok.ensures.falls
    (c.view_on.ensures bytes (read_still _ _ _ _ _ c.in-Ok.ensures.files read)
    (starts_within (view_value w) bytes setting.inst setting.start network c.in-Ok-setting_of.ensures.start c.in-Ok-setting_of.ensures.within))

pub returns-in-Err-Refused : goal.returns-in-Err-Refused
returns-in-Err-Refused g c =
    let before = g.S.Shelf.state c.args.shelf.now in
    let bytes = c.in-Ok.bytes.items in
    let read = named_read _ _ _ _ _ c.as_str.ensures.value c.in-Ok.ensures.bytes in
    let line = refused_early (view_value c.args.job.now) before.files bytes c.as_slice.result.now c.in-Err-Refused.field-0 c.in-Err-Refused.refusal
    read c.as_slice.ensures.value c.in-Err-Refused.field-0-is c.in-Err-Refused.ensures.rule c.in-Err-Refused.ensures.ended in
    finds_refused line (its_rule cause.Refused c.in-Err-Refused.refusal) c.refuse_job.ensures.cause c.refuse_job.ensures.status c.refuse_job.ensures.text c.refuse_job.ensures.files c.refuse_job.ensures.memory
    c.in-Ok.ensures.stays c.in-Ok.ensures.falls c.in-Ok.ensures.files
