use Rattle.std.proofs.Common.{◌∷◌, ℕ, List, [], ap, refl}
use Rattle.evview_run.proofs.ViewFinds.{one_more, places_fail, view_found}
use Rattle.job_frame.proofs.BehindReads.{finds_made, read_fails}
use Rattle.view_words.specs.JobValue.{view_value}
use Rattle.evview_run.proofs.view.view_named.Goals as goal

pub returns-in-Err : goal.returns-in-Err
returns-in-Err g c = λ bytes plan_bytes read read_plan has named.
    let before = g.S.Shelf.state c.args.shelf.now in
    let after = g.S.Shelf.state c.read_file.new.shelf in
    read_fails (places_fail (view_value c.args.job.now) before after bytes plan_bytes c.args.name.now (record { network = c.args.inst.now; held = c.args.held.now; has = has }) read read_plan named)
    refl c.in-Err.ensures.fault c.in-Err.ensures.stays c.in-Err.ensures.falls c.in-Err.ensures.files

pub returns : goal.returns
returns g c = λ bytes plan_bytes read read_plan has named.
    let w = c.args.job.now in
    let before = g.S.Shelf.state c.args.shelf.now in
    let given = c.as_slice.result.now ∷ [] in
    let more = c.in-Ok.bytes.items ∷ [] in
    finds_made c.view_text.result
    (view_found (view_value w) before.files bytes plan_bytes given more c.view_text.result
    c.requires.job.different read read_plan (one_more (view_value w) before.files c.in-Ok.bytes.items c.args.name.now named c.in-Ok.ensures.bytes) (ap (λ (bs : List ℕ). bs ∷ []) c.as_slice.ensures.value)
    (c.view_text.ensures.answers bytes plan_bytes has) c.view_text.ensures.heard)
    c.view_text.ensures.memory
    c.in-Ok.ensures.stays c.in-Ok.ensures.falls c.in-Ok.ensures.files
