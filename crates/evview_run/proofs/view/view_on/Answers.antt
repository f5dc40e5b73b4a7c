use Rattle.std.proofs.Common.{◌≡◌, ◌∙◌, ℕ, List, Ok, Option, None, Some, ap, refl, string_bytes, subst, sym}
use Rattle.std.proofs.Common.{Global, String}
use Rattle.std.specs.Option.{option_map}
use Rattle.evview_run.proofs.ViewFinds.{none_more, plan_fails, refused_plan, view_found}
use Rattle.evview_run.specs.Held.{held_in}
use Rattle.evview_run.specs.declared.cause.Cause.TheVariants as cause
use Rattle.job_frame.proofs.BehindReads.{finds_behind, finds_made, finds_refused, read_fails}
use Rattle.job_frame.proofs.FileReads.{named_read, read_still}
use Rattle.job_frame.proofs.Hearing.{its_rule}
use Rattle.view_words.specs.JobValue.{view_value}
use Rattle.evview_run.proofs.view.view_on.Goals as goal

pub returns-in-Err : goal.returns-in-Err
returns-in-Err g c = λ bytes read start.
    let before = g.S.Shelf.state c.args.shelf.now in
    let after = g.S.Shelf.state c.read_file.new.shelf in
    read_fails (plan_fails (view_value c.args.job.now) before after bytes c.args.inst.now read start)
    c.as_str.ensures.value c.in-Err.ensures.fault c.in-Err.ensures.stays c.in-Err.ensures.falls c.in-Err.ensures.files

pub returns-in-Some : goal.returns-in-Some
returns-in-Some g c = λ bytes read start.
    let w = c.args.job.now in
    let plan_bytes = c.in-Ok.bytes.items in
    let read_plan = named_read _ _ _ _ _ c.as_str.ensures.value c.in-Ok.ensures.bytes in
    let is = subst (λ (bs : List ℕ). held_in c.args.inst.now w.form bs ≡ Ok c.in-Ok-held_of.held) c.as_slice.ensures.value c.in-Ok-held_of.ensures.ok in
    let named = ap (λ (o : Option (String Global)). option_map (λ s. string_bytes s) o) c.in-Some.is ∙ ap (λ (bs : List ℕ). Some bs) (sym c.as_str-in-Some.ensures.value) in
    finds_behind c.in-Ok.ensures.files c.in-Ok.ensures.stays c.in-Ok.ensures.falls
    (c.view_named.ensures bytes plan_bytes (read_still _ _ _ _ _ c.in-Ok.ensures.files read) (read_still _ _ _ _ _ c.in-Ok.ensures.files read_plan) (record { start = start; is = is }) named)

pub returns-in-Ok-held_of : goal.returns-in-Ok-held_of
returns-in-Ok-held_of g c = λ bytes read start.
    let w = c.args.job.now in
    let before = g.S.Shelf.state c.args.shelf.now in
    let plan_bytes = c.in-Ok.bytes.items in
    let read_plan = named_read _ _ _ _ _ c.as_str.ensures.value c.in-Ok.ensures.bytes in
    let is = subst (λ (bs : List ℕ). held_in c.args.inst.now w.form bs ≡ Ok c.in-Ok-held_of.held) c.as_slice.ensures.value c.in-Ok-held_of.ensures.ok in
    let unnamed : (view_value w).places ≡ None = ap (λ (o : Option (String Global)). option_map (λ s. string_bytes s) o) c.in-None.is in
    finds_made c.view_text.result
    (view_found (view_value w) before.files bytes plan_bytes _ _ c.view_text.result
    c.requires.job.different read read_plan (none_more (view_value w) before.files unnamed) refl (c.view_text.ensures.answers bytes plan_bytes (record { start = start; is = is })) c.view_text.ensures.heard)
    c.view_text.ensures.memory
    c.in-Ok.ensures.stays c.in-Ok.ensures.falls c.in-Ok.ensures.files

pub returns-in-Err-Refused : goal.returns-in-Err-Refused
returns-in-Err-Refused g c = λ bytes read start.
    let before = g.S.Shelf.state c.args.shelf.now in
    let plan_bytes = c.in-Ok.bytes.items in
    let read_plan = named_read _ _ _ _ _ c.as_str.ensures.value c.in-Ok.ensures.bytes in
    let line = refused_plan (view_value c.args.job.now) before.files bytes plan_bytes c.as_slice.result.now c.args.inst.now c.in-Err-Refused.field-0 c.in-Err-Refused.refusal
    read read_plan c.as_slice.ensures.value start c.in-Err-Refused.field-0-is c.in-Err-Refused.ensures.rule c.in-Err-Refused.ensures.ended in
    finds_refused line (its_rule cause.Refused c.in-Err-Refused.refusal) c.refuse_job.ensures.cause c.refuse_job.ensures.status c.refuse_job.ensures.text c.refuse_job.ensures.files c.refuse_job.ensures.memory
    c.in-Ok.ensures.stays c.in-Ok.ensures.falls c.in-Ok.ensures.files
