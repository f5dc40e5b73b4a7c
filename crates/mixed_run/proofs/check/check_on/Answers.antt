use Rattle.std.proofs.Common.{ℕ, List, Option, arith, inl, length, refl, subst, sym}
use Rattle.std.proofs.lemmas.Grind.{common_steps}
use Rattle.std.specs.Option.{option_map}
use Rattle.ev_outside.specs.Shelf.{Files}
use Rattle.job_frame.proofs.BehindReads.{finds_behind, finds_refused, read_fails}
use Rattle.job_frame.proofs.Endings.{rule_of}
use Rattle.job_frame.proofs.FileReads.{named_read, read_still}
use Rattle.job_frame.specs.Task.{AreRead}
use Rattle.mixed_model.specs.MixedTexts.{SpellsMixedPlan}
use Rattle.mixed_model.specs.declared.proof.MixedRoute.{MixedRoute}
use Rattle.mixed_run.specs.KindFiles.{kind_reads}
use Rattle.mixed_run.proofs.AcceptedAnswers.{plan_refused}
use Rattle.mixed_run.proofs.CheckMixedFinds.{plan_fails, refused_by_plan}
use Rattle.command_line.specs.JobValue.{mixed_value}
use Rattle.command_line.specs.Words.{MixedJob}
use Rattle.mixed_run.specs.declared.refusal.MixedRefusal.TheVariants.{Plain}
use Rattle.mixed_run.proofs.check.check_on.Goals as goal

pub returns-in-Err : goal.returns-in-Err
returns-in-Err g c = λ files read has.
    let job : MixedJob = mixed_value c.args.job.now in
    let before = g.S.Shelf.state c.args.shelf.now in
    let after = g.S.Shelf.state c.read_file.new.shelf in
    read_fails (plan_fails job before after files c.args.kinds.now read has)
    c.as_str.ensures.value c.in-Err.ensures.fault c.in-Err.ensures.stays c.in-Err.ensures.falls c.in-Err.ensures.files

pub returns-in-Ok-plan_of : goal.returns-in-Ok-plan_of
returns-in-Ok-plan_of g c = λ files read has.
    let job : MixedJob = mixed_value c.args.job.now in
    let kinds = length c.args.kinds.now in
    let plan_bytes = c.in-Ok.bytes.items in
    let read_plan = named_read _ _ _ _ _ c.as_str.ensures.value c.in-Ok.ensures.bytes in
    let given = subst (λ (plan : Option (List MixedRoute)). SpellsMixedPlan kinds c.as_slice.result.now plan) (sym c.routes_of.ensures) c.in-Ok-plan_of.ensures.ok in
    let spelled = subst (λ (bs : List ℕ). SpellsMixedPlan kinds bs (option_map (λ p. p.now) c.routes_of.result)) c.as_slice.ensures.value given in
    let still = subst (λ (fs : Option Files). AreRead fs (kind_reads job.files) files) (sym c.in-Ok.ensures.files) read in
    finds_behind c.in-Ok.ensures.files c.in-Ok.ensures.stays c.in-Ok.ensures.falls
    (c.check_plan.ensures files plan_bytes still (read_still _ _ _ _ _ c.in-Ok.ensures.files read_plan) (record { has = has; spelled = spelled }))

pub returns-in-Err-Refused : goal.returns-in-Err-Refused
returns-in-Err-Refused g c = λ files read has.
    let job : MixedJob = mixed_value c.args.job.now in
    let before = g.S.Shelf.state c.args.shelf.now in
    let r = c.in-Err-Refused.refusal in
    let why = c.in-Err-Refused.field-0 in
    let plan_bytes = c.in-Ok.bytes.items in
    let read_plan = named_read _ _ _ _ _ c.as_str.ensures.value c.in-Ok.ensures.bytes in
    let line = refused_by_plan job before.files files plan_bytes (Plain r) read read_plan (rule_of why r c.in-Err-Refused.field-0-is c.in-Err-Refused.ensures.rule)
    (plan_refused job.limit files c.args.kinds.now (length c.args.kinds.now) plan_bytes c.as_slice.result.now why r has refl c.as_slice.ensures.value c.in-Err-Refused.field-0-is c.in-Err-Refused.ensures.ended) in
    finds_refused line (inl (record { refusal = Plain r; status_is = refl; text_is = refl; heard_is = refl })) c.refuse_job.ensures.cause c.refuse_job.ensures.status c.refuse_job.ensures.text c.refuse_job.ensures.files c.refuse_job.ensures.memory
    c.in-Ok.ensures.stays c.in-Ok.ensures.falls c.in-Ok.ensures.files

pub returns : goal.returns
returns = grind (arith, common_steps)
