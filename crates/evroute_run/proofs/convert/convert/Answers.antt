use Rattle.std.proofs.Common.{◌≡◌, ◌≢◌, List, [], ◌∷◌, ℕ, map, refl, rules, subst, arith}
use Rattle.std.proofs.lemmas.Grind.{common_steps}
use Rattle.std.specs.Prelude.{string_bytes}
use Rattle.command_line.specs.Words.{ConvertJob, convert_job_of}
use Rattle.decimal_import.specs.declared.fault.ImportFault.TheVariants as faults
use Rattle.evroute_run.proofs.ConvertFinds.{convert_becomes, convert_refused}
use Rattle.evroute_run.specs.ConvertAnswer.{convert_task}
use Rattle.job_frame.proofs.BehindReads.{finds_refused, first_fails}
use Rattle.job_frame.proofs.FileReads.{finds_as, named_read, ok_is_no_error}
use Rattle.job_frame.specs.Finds.{written_by}
use Rattle.job_frame.specs.Writes.{Written}
use Rattle.job_frame.specs.declared.status.Status.TheVariants as status
use Rattle.refusal_lines.specs.declared.refusal.Refusal.TheVariants as refusal
use Rattle.evroute_causes.proofs.Hearing.{its_rule}
use Rattle.evroute_run.proofs.convert.convert.Goals as goal

pub returns-in-Err : goal.returns-in-Err
returns-in-Err g c = first_fails refl tt c.as_str.ensures.value c.in-Err.ensures.fault c.in-Err.ensures.stays c.in-Err.ensures.falls c.in-Err.ensures.files

pub returns-in-Ok-write_whole : goal.returns-in-Ok-write_whole
returns-in-Ok-write_whole g c =
    let w = c.args.job.now in
    let job : ConvertJob = convert_job_of (string_bytes w.file) (string_bytes w.outfile) w.time_digits w.energy_digits in
    let before = g.S.Shelf.state c.args.shelf.now in
    let after = g.S.Shelf.state c.read_file.new.shelf in
    let bytes = c.in-Ok.bytes.items in
    let whole = c.in-Ok-whole.whole.items in
    let read = named_read _ _ _ _ _ c.as_str.ensures.value c.in-Ok.ensures.bytes in
    let file : Written = record { name = job.outfile; bytes = whole } in
    let named = subst (λ (n : List ℕ). map written_by c.in-Ok-write_whole.found.files.items ≡ record { name = n; bytes = whole } ∷ []) c.as_str-in-Ok-whole.ensures.value c.in-Ok-write_whole.ensures.files in
    finds_as (convert_task job) before after (record { status = status.Done; writes = file ∷ []; text = [] }) _
    (convert_becomes job before.files bytes c.as_slice.result.now whole read c.as_slice.ensures.value c.in-Ok-whole.ensures.ok c.in-Ok-whole.ensures.converted)
    tt c.in-Ok-write_whole.ensures.heard (tt, tt) c.in-Ok-write_whole.ensures.status named c.in-Ok-write_whole.ensures.text tt
    (c.in-Ok.ensures.stays (λ failed. ok_is_no_error failed)) c.in-Ok.ensures.falls c.in-Ok.ensures.files

pub returns : goal.returns
returns g c =
    let w = c.args.job.now in
    let job : ConvertJob = convert_job_of (string_bytes w.file) (string_bytes w.outfile) w.time_digits w.energy_digits in
    let before = g.S.Shelf.state c.args.shelf.now in
    let bytes = c.in-Ok.bytes.items in
    let read = named_read _ _ _ _ _ c.as_str.ensures.value c.in-Ok.ensures.bytes in
    let rule : c.in-Err-whole.fault ≢ faults.Memory = search rules in
    finds_refused
    (convert_refused job before.files bytes c.as_slice.result.now c.in-Err-whole.fault read c.as_slice.ensures.value rule c.in-Err-whole.ensures.fault)
    (its_rule (refusal.Literal c.in-Err-whole.fault)) c.refuse_job.ensures.cause
    c.refuse_job.ensures.status c.refuse_job.ensures.text c.refuse_job.ensures.files c.refuse_job.ensures.memory
    c.in-Ok.ensures.stays c.in-Ok.ensures.falls c.in-Ok.ensures.files

pub returns-in-Ok-whole : goal.returns-in-Ok-whole
returns-in-Ok-whole = grind (arith, common_steps)

pub returns-in-Err-Memory : goal.returns-in-Err-Memory
returns-in-Err-Memory = grind (arith, common_steps)

pub refuse_job-requires : goal.refuse_job-requires
refuse_job-requires = grind (arith, common_steps)
