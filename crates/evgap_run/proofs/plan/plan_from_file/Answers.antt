use Rattle.evgap_run.proofs.PlanFinds.{found_from_text, start_fails}
use Rattle.gap_words.specs.JobValue.{plan_value}
use Rattle.job_frame.proofs.BehindReads.{finds_made, read_fails}
use Rattle.std.proofs.Common.{refl}
use Rattle.evgap_run.proofs.plan.plan_from_file.Goals as goal

pub returns-in-Err : goal.returns-in-Err
returns-in-Err g c = λ bytes read fleet named.
    let before = g.S.Shelf.state c.args.shelf.now in
    let after = g.S.Shelf.state c.read_file.new.shelf in
    read_fails (start_fails (plan_value c.args.job.now) before after bytes c.args.name.now c.args.inst.now named read fleet)
    refl c.in-Err.ensures.fault c.in-Err.ensures.stays c.in-Err.ensures.falls c.in-Err.ensures.files

pub returns : goal.returns
returns g c = λ bytes read fleet named.
    let job = plan_value c.args.job.now in
    let before = g.S.Shelf.state c.args.shelf.now in
    finds_made c.plan_from_text.result
    (found_from_text job before.files bytes c.args.name.now c.in-Ok.bytes.items c.as_slice.result.now c.plan_from_text.result
    c.requires named read c.in-Ok.ensures.bytes c.as_slice.ensures.value (c.plan_from_text.ensures.answers bytes c.args.name.now fleet named) c.plan_from_text.ensures.heard)
    c.plan_from_text.ensures.memory
    c.in-Ok.ensures.stays c.in-Ok.ensures.falls c.in-Ok.ensures.files
