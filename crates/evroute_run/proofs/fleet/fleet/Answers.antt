use Rattle.std.proofs.Common.{◌≡◌, IfOk, refl, rules, arith}
use Rattle.std.proofs.lemmas.Grind.{common_steps}
use Rattle.std.specs.Prelude.{string_bytes}
use Rattle.command_line.specs.Words.{FleetJob, fleet_job_of}
use Rattle.evroute_run.proofs.FleetFinds.{both_differ, fleet_found, fleet_refused, found_is_answered}
use Rattle.job_frame.proofs.BehindReads.{finds_found, finds_refused, first_fails}
use Rattle.job_frame.proofs.FileReads.{named_read}
use Rattle.job_frame.specs.Finds.{outcome_of}
use Rattle.refusal_lines.specs.RefusalText.{refusal_text}
use Rattle.evroute_causes.proofs.Hearing.{its_rule}
use Rattle.evroute_run.proofs.fleet.fleet.Goals as goal

pub returns-in-Err : goal.returns-in-Err
returns-in-Err g c = first_fails refl tt c.as_str.ensures.value c.in-Err.ensures.fault c.in-Err.ensures.stays c.in-Err.ensures.falls c.in-Err.ensures.files

pub returns-in-Ok-plan_on : goal.returns-in-Ok-plan_on
returns-in-Ok-plan_on g c =
    let w = c.args.job.now in
    let job : FleetJob = fleet_job_of (string_bytes w.file) (string_bytes w.plan) (string_bytes w.cert) w.limit w.nodes in
    let before = g.S.Shelf.state c.args.shelf.now in
    let bytes = c.in-Ok.bytes.items in
    let read = named_read _ _ _ _ _ c.as_str.ensures.value c.in-Ok.ensures.bytes in
    let found = c.in-Ok-plan_on.found in
    let o = outcome_of found in
    let told = c.in-Ok-plan_on.ensures.found in
    finds_found
    (found_is_answered c.in-Ok-fleet_instance.inst w.nodes told.0 told.1 o.status o.text told.2)
    (fleet_found job before.files bytes c.as_slice.result.now c.in-Ok-fleet_instance.inst told.0 told.1 o.status o.writes o.text
    read c.as_slice.ensures.value c.in-Ok-fleet_instance.ensures.ok told.2 told.3)
    c.in-Ok-plan_on.ensures.heard
    (both_differ job told.0 told.1 o.writes c.requires.files told.3)
    c.in-Ok.ensures.stays c.in-Ok.ensures.falls c.in-Ok.ensures.files

pub returns-in-Err-Refused : goal.returns-in-Err-Refused
returns-in-Err-Refused g c =
    let w = c.args.job.now in
    let job : FleetJob = fleet_job_of (string_bytes w.file) (string_bytes w.plan) (string_bytes w.cert) w.limit w.nodes in
    let before = g.S.Shelf.state c.args.shelf.now in
    let bytes = c.in-Ok.bytes.items in
    let read = named_read _ _ _ _ _ c.as_str.ensures.value c.in-Ok.ensures.bytes in
    let text : IfOk c.refuse_job.result (λ f. f.answer.text.items ≡ refusal_text c.in-Err-Refused.refusal) = search rules in
    finds_refused
    (fleet_refused job before.files bytes c.as_slice.result.now c.in-Err-Refused.field-0 c.in-Err-Refused.refusal
    read c.as_slice.ensures.value c.in-Err-Refused.field-0-is c.in-Err-Refused.ensures.ended)
    (its_rule c.in-Err-Refused.refusal) c.refuse_job.ensures.cause c.refuse_job.ensures.status text c.refuse_job.ensures.files c.refuse_job.ensures.memory
    c.in-Ok.ensures.stays c.in-Ok.ensures.falls c.in-Ok.ensures.files

pub returns-in-Ok-fleet_instance : goal.returns-in-Ok-fleet_instance
returns-in-Ok-fleet_instance = grind (arith, common_steps)

pub returns : goal.returns
returns = grind (arith, common_steps)
