use Rattle.std.proofs.Common.{arith}
use Rattle.evroute_run.proofs.ProveFinds.{puts_proved}
use Rattle.evroute_causes.proofs.Hearing.{found_is_heard}
use Rattle.job_frame.specs.Finds.{written_by}
use Rattle.evroute_causes.specs.Heard.{HearsRefusals}
use Rattle.evroute_run.proofs.prove.prove_trip.Goals as goal

pub returns-clause-answers : goal.returns-clause-answers
returns-clause-answers c = λ options word bytes task is.
    let g = c.args.inst.now in
    let route = c.args.route.now in
    let proof = c.in_ok-proof.proof in
    let reads = c.written_proofs_are_read.ensures g route c.nodes-nodes.ensures.network task.is_route (omega (arith, task.short)) proof c.in_ok-proof.ensures.fits in
    puts_proved options word c.args.cert.now bytes g route c.args.start proof c.in_ok-answer.answer (written_by c.in_ok-file.file) c.with_file.result task is
    c.in_ok-proof.ensures.fits c.in_ok-proof.ensures.accepted c.in_ok-proof.ensures.shows reads
    c.in_ok-answer.ensures.status c.in_ok-answer.ensures.text c.in_ok-file.ensures c.with_file.ensures.answer c.with_file.ensures.files

pub returns-clause-heard : goal.returns-clause-heard
returns-clause-heard c = found_is_heard HearsRefusals c.in_ok-answer.answer c.with_file.result c.with_file.ensures.answer c.in_ok-answer.ensures.heard
