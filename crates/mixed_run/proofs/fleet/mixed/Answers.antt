use Rattle.std.proofs.Common.{List, Ok, String, arith, subst}
use Rattle.std.proofs.lemmas.Grind.{common_steps}
use Rattle.std.specs.declared.alloc.Global.{Global}
use Rattle.command_line.specs.JobValue.{mixed_value}
use Rattle.command_line.specs.Words.{MixedJob}
use Rattle.ev_model.specs.Network.{Network}
use Rattle.job_frame.proofs.FileReads.{finds}
use Rattle.job_frame.specs.Finds.{outcome_of}
use Rattle.job_frame.specs.Task.{AreRead}
use Rattle.mixed_run.proofs.MixedFinds.{both_differ, found_is_answered, mixed_found}
use Rattle.mixed_run.specs.KindFiles.{kind_reads}
use Rattle.mixed_run.specs.MixedAnswer.{IsMixedFound, mixed_task}
use Rattle.mixed_run.specs.Names.{names_of}
use Rattle.mixed_run.proofs.fleet.mixed.Goals as goal

pub returns-in-Err-Refused : goal.returns-in-Err-Refused
returns-in-Err-Refused = grind (arith, common_steps)

pub returns : goal.returns
returns = grind (arith, common_steps)

pub returns-in-Ok : goal.returns-in-Ok
returns-in-Ok = grind (arith, common_steps)

pub returns-in-Ok-plan_on : goal.returns-in-Ok-plan_on
returns-in-Ok-plan_on g c =
    let w = c.args.job.now in
    let job : MixedJob = mixed_value w in
    let before = g.S.Shelf.state c.args.shelf.now in
    let after = g.S.Shelf.state c.kinds_of_files.new.shelf in
    let kinds = c.in-Ok.kinds.items in
    let o = outcome_of c.in-Ok-plan_on.found in
    let has = c.in-Ok.ensures.ok in
    let told = c.in-Ok-plan_on.ensures.found in
    let are = subst (λ (fs : List (String Global)). AreRead before.files (kind_reads (names_of fs)) has.0) c.as_slice.ensures.value has.1 in
    let found = subst (λ (ks : List Network). IsMixedFound ks told.0 told.1 o.status o.text) c.as_slice-in-Ok.ensures.value told.2 in
    finds (mixed_task job) before after (Ok c.in-Ok-plan_on.found)
    (found_is_answered kinds told.0 told.1 o.status o.text found)
    (mixed_found job before.files has.0 kinds told.0 told.1 o.status o.writes o.text are has.2 found told.3)
    c.in-Ok-plan_on.ensures.heard
    (both_differ w told.0 told.1 o.writes c.requires told.3)
    tt (c.in-Ok.ensures.stays (λ failed. cc)) c.in-Ok.ensures.falls c.in-Ok.ensures.files
