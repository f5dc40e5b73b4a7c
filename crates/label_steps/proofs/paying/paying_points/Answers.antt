use Rattle.std.proofs.Common.{◌∙◌, ◌≤◌, ℕ, Global, None, Option, Vec, ap, arith, get_or, subst, sym}
use Rattle.std.proofs.lemmas.Grind.{common_steps}
use Rattle.label_steps.specs.Paying.{paying}
use Rattle.std.specs.Prelude.{IfSome}
use Rattle.piece_fn.proofs.Walks.{points_from}
use Rattle.label_steps.proofs.Pays.{get_low, last_from, slice_is, step_on, step_over}
use Rattle.label_steps.proofs.paying.paying_points.Goals.{then-pays+in_ok-push, else-pays}
use Rattle.label_steps.proofs.paying.paying_points.Goals as goal

pub pays-requires-clause-points : goal.pays-requires-clause-points
pays-requires-clause-points c = rw (slice_is c.args.points.now c.loop-index.index) (points_from c.args.points.now c.loop-index.index c.requires.points (let test = c.loop-index-test.true in let end = c.loop-index.auto.index-end in omega (arith, test, end)))

pub pays-requires-clause-fits : goal.pays-requires-clause-fits
pays-requires-clause-fits c =
    rw (slice_is c.args.points.now c.loop-index.index, last_from c.args.points.now c.loop-index.index (let test = c.loop-index-test.true in let end = c.loop-index.auto.index-end in omega (arith, test, end))) (c.requires.fits)

pub loop-index-preserved : goal.loop-index-preserved
loop-index-preserved c =
    let ps = c.args.points.now in
    let less = c.loop-index-test.true in
    let fits = c.requires.fits in
    elim c.if-pays.branch [
      | then-pays+in_ok-push w ↦ record {
        found =
            step_on c.args.curve.now ps c.loop-index.before c.if-pays.before c.loop-index.index c.loop-index.starts.items c.if-pays.starts.items (paying c.args.curve.now None ps) c.pays.result less c.pays.ensures w.if-pays.true
            (ap (λ (v : Vec (ℕ × ℕ) Global). v.items) w.starts-is ∙ w.in_ok-push.ensures.items) w.before-is c.loop-index.invariant.found;
        fits =
            let low = get_low ps c.loop-index.index c.requires.points less in
            let low_full : (get_or ps c.loop-index.index (0, 0)).0 ≤ c.args.full = omega (arith, low, fits) in
            subst (λ (o : Option (ℕ × ℕ)). IfSome o (λ b. b.0 ≤ c.args.full)) (sym w.before-is) low_full;
      }
      | else-pays w ↦ record {
        found =
            step_over c.args.curve.now ps c.loop-index.before c.if-pays.before c.loop-index.index c.loop-index.starts.items c.if-pays.starts.items (paying c.args.curve.now None ps) c.pays.result less c.pays.ensures w.if-pays.false
            (ap (λ (v : Vec (ℕ × ℕ) Global). v.items) w.starts-is) w.before-is c.loop-index.invariant.found;
        fits = subst (λ (o : Option (ℕ × ℕ)). IfSome o (λ b. b.0 ≤ c.args.full)) (sym w.before-is) c.loop-index.invariant.fits;
      }
    ]

pub returns : goal.returns
returns = grind (arith, common_steps)
