use Rattle.std.proofs.Common.{refl}
use Rattle.std.specs.Prelude.{string_bytes}
use Rattle.command_line.specs.Words.{ProofJob, proof_job_of}
use Rattle.evroute_run.proofs.ProveFinds.{prove_found}
use Rattle.job_frame.proofs.BehindReads.{finds_made, first_fails}
use Rattle.job_frame.proofs.FileReads.{named_read}
use Rattle.evroute_run.proofs.prove.prove.Goals as goal

pub returns-in-Err : goal.returns-in-Err
returns-in-Err g c = first_fails refl tt c.as_str.ensures.value c.in-Err.ensures.fault c.in-Err.ensures.stays c.in-Err.ensures.falls c.in-Err.ensures.files

pub returns : goal.returns
returns g c =
    let w = c.args.job.now in
    let job : ProofJob = proof_job_of (string_bytes w.file) (string_bytes w.route) (string_bytes w.cert) w.options in
    let before = g.S.Shelf.state c.args.shelf.now in
    let bytes = c.in-Ok.bytes.items in
    let read = named_read _ _ _ _ _ c.as_str.ensures.value c.in-Ok.ensures.bytes in
    finds_made c.prove_text.result
    (prove_found job before.files bytes c.as_slice.result.now c.as_str-2.result.now c.as_str-3.result.now c.prove_text.result
    read c.as_slice.ensures.value c.as_str-2.ensures.value c.as_str-3.ensures.value c.prove_text.ensures.answers c.prove_text.ensures.heard)
    c.prove_text.ensures.memory
    c.in-Ok.ensures.stays c.in-Ok.ensures.falls c.in-Ok.ensures.files
