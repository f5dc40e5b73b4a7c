use Rattle.std.proofs.Common.{List, Option, String, subst, sym}
use Rattle.std.specs.declared.alloc.Global.{Global}
use Rattle.ev_model.specs.Network.{Network}
use Rattle.ev_outside.specs.Shelf.{Files}
use Rattle.job_frame.proofs.FileReads.{finds_alone, finds_since}
use Rattle.job_frame.specs.Task.{AreRead}
use Rattle.job_frame.specs.declared.status.Status.TheVariants as status
use Rattle.mixed_run.proofs.CheckMixedFinds.{file_fails, refused_early}
use Rattle.mixed_run.proofs.FileSteps.{halt_is, refused_is_no_failure, stopped_finds}
use Rattle.mixed_run.proofs.Hearing.{refused_job_is_heard}
use Rattle.mixed_run.specs.CheckMixedAnswer.{HearsMixedJudgement, check_mixed_task}
use Rattle.command_line.specs.JobValue.{mixed_value}
use Rattle.command_line.specs.Words.{MixedJob}
use Rattle.mixed_run.specs.KindFiles.{HasKinds, IsKindsRefused, kind_reads, mixed_refusal_text}
use Rattle.mixed_run.specs.Names.{names_of}
use Rattle.mixed_run.specs.declared.refusal.Halt.TheVariants.{Refused, Stopped}
use Rattle.mixed_run.proofs.check.check_mixed_files.Goals as goal

pub returns-in-Ok : goal.returns-in-Ok
returns-in-Ok g c =
    let w = c.args.job.now in
    let job : MixedJob = mixed_value w in
    let before = g.S.Shelf.state c.args.shelf.now in
    let later = g.S.Shelf.state c.kinds_of_files.new.shelf in
    let after = g.S.Shelf.state c.check_on.new.shelf in
    let has = c.in-Ok.ensures.ok in
    let read = subst (λ (fs : List (String Global)). AreRead before.files (kind_reads (names_of fs)) has.0) c.as_slice.ensures.value has.1 in
    let still = subst (λ (fs : Option Files). AreRead fs (kind_reads job.files) has.0) (sym c.in-Ok.ensures.files) read in
    let kinds = subst (λ (ks : List Network). HasKinds w.limit has.0 ks) (sym c.as_slice-in-Ok.ensures.value) has.2 in
    finds_since (check_mixed_task job) before later after c.check_on.result
    c.in-Ok.ensures.files (c.in-Ok.ensures.stays (λ failed. cc)) c.in-Ok.ensures.falls (c.check_on.ensures has.0 still kinds)

pub returns-in-Err-Refused : goal.returns-in-Err-Refused
returns-in-Err-Refused g c =
    let job : MixedJob = mixed_value c.args.job.now in
    let before = g.S.Shelf.state c.args.shelf.now in
    let after = g.S.Shelf.state c.kinds_of_files.new.shelf in
    let r = c.in-Err-Refused.refusal in
    let halted = halt_is job.limit (IsKindsRefused job.limit) c.as_slice.result.now c.args.job.now.files.items before after c.in-Err-Refused.field-0 (Refused r) c.as_slice.ensures.value c.in-Err-Refused.field-0-is c.in-Err-Refused.ensures.halt in
    finds_alone (check_mixed_task job) before after status.Refused (mixed_refusal_text r) c.refuse_mixed_job.result (refused_early job before.files r halted) tt
    (refused_job_is_heard HearsMixedJudgement r c.refuse_mixed_job.result c.refuse_mixed_job.ensures.status c.refuse_mixed_job.ensures.text c.refuse_mixed_job.ensures.cause)
    c.refuse_mixed_job.ensures.status c.refuse_mixed_job.ensures.text c.refuse_mixed_job.ensures.files c.refuse_mixed_job.ensures.memory
    (c.in-Err-Refused.ensures.stays (refused_is_no_failure c.in-Err-Refused.field-0 r c.in-Err-Refused.field-0-is)) c.in-Err-Refused.ensures.falls c.in-Err-Refused.ensures.files

pub returns-in-Err-Stopped : goal.returns-in-Err-Stopped
returns-in-Err-Stopped g c =
    let job : MixedJob = mixed_value c.args.job.now in
    let before = g.S.Shelf.state c.args.shelf.now in
    let after = g.S.Shelf.state c.kinds_of_files.new.shelf in
    let halted = halt_is job.limit (IsKindsRefused job.limit) c.as_slice.result.now c.args.job.now.files.items before after c.in-Err-Stopped.field-0 (Stopped c.in-Err-Stopped.fault) c.as_slice.ensures.value c.in-Err-Stopped.field-0-is c.in-Err-Stopped.ensures.halt in
    stopped_finds (check_mixed_task job) job.limit job.files (IsKindsRefused job.limit) before after c.in-Err-Stopped.field-0 c.in-Err-Stopped.fault c.in-Err-Stopped.field-0-is
    halted (λ fails. file_fails job before after fails) c.in-Err-Stopped.ensures.stays c.in-Err-Stopped.ensures.falls c.in-Err-Stopped.ensures.files
