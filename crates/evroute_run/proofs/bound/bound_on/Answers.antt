use Rattle.std.specs.Prelude.{string_bytes}
use Rattle.evroute_run.proofs.BoundFinds.{puts_bound}
use Rattle.evroute_run.proofs.Hearing.{bound_is_heard}
use Rattle.evroute_causes.proofs.Hearing.{found_is_heard}
use Rattle.job_frame.specs.Finds.{written_by}
use Rattle.evroute_causes.specs.Heard.{HearsSearch}
use Rattle.evroute_run.proofs.bound.bound_on.Goals as goal

pub know_read_back-requires-clause-fits : goal.know_read_back-requires-clause-fits
know_read_back-requires-clause-fits g c = c.in_ok-proof.ensures.fits

pub know_read_back-requires-clause-kept : goal.know_read_back-requires-clause-kept
know_read_back-requires-clause-kept g c = c.in_ok-proof.ensures.kept

pub returns-clause-found : goal.returns-clause-found
returns-clause-found g c =
    let w = c.args.job.now in
    puts_bound c.args.inst.now w.near (string_bytes w.cert) c.as_str.result.now c.in_ok-proof.proof c.in_ok-answer.answer (written_by c.in_ok-file.file)
    c.with_file.result c.in_ok-proof.ensures c.in_ok-answer.ensures.status c.in_ok-answer.ensures.text c.as_str.ensures.value c.in_ok-file.ensures c.know_read_back.ensures
    c.with_file.ensures.answer c.with_file.ensures.files

pub returns-clause-heard : goal.returns-clause-heard
returns-clause-heard g c =
    found_is_heard HearsSearch c.in_ok-answer.answer c.with_file.result c.with_file.ensures.answer
    (bound_is_heard c.in_ok-proof.proof.bound c.in_ok-answer.answer c.in_ok-answer.ensures.status c.in_ok-answer.ensures.cause)
