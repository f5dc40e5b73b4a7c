use Rattle.std.proofs.Common.{◌≡◌, ◌∙◌, ◌+◌, ◌∷◌, List, ap, arith, drop, drop-cons, false, get_or, suc, sym}
use Rattle.std.proofs.lemmas.List.{drop_all}
use Rattle.ev_model.specs.declared.Stop.{Stop}
use Rattle.route_proof.specs.Following.{follows}
use Rattle.route_proof.proofs.FollowedRoutes.{follows_end, follows_next, follows_via}
use Rattle.route_proof.proofs.plan.follows.Goals.{then-not-stop+else-passed-route+else-route-passed, else-not-stop}
use Rattle.route_proof.proofs.plan.follows.Goals as goal

pub loop-stop-preserved : goal.loop-stop-preserved
loop-stop-preserved c =
    let ns = c.args.route.now in
    let at = c.loop-stop.passed in
    let i = c.loop-stop.stop-index in
    let s = get_or c.args.stops.now c.loop-stop.stop-index (record { node = 0; added = 0; via = false }) in
    let ss = drop (c.loop-stop.stop-index + 1) c.args.stops.now in
    let more : suc c.loop-stop.stop-index ≡ c.loop-stop.stop-index + 1 = omega arith in
    let parts : drop c.loop-stop.stop-index c.args.stops.now ≡ s ∷ ss = drop-cons c.args.stops.now i (record { node = 0; added = 0; via = false }) c.loop-stop-test.true ∙ ap (λ k. s ∷ drop k c.args.stops.now) more in
    let told : follows (drop c.loop-stop.passed c.args.route.now) (s ∷ ss) ≡ follows c.args.route.now c.args.stops.now = ap (λ (l : List Stop). follows (drop c.loop-stop.passed c.args.route.now) l) (sym parts) ∙ c.loop-stop.invariant.told in
    elim c.if-not-stop.branch [
      | then-not-stop+else-passed-route+else-route-passed w ↦ record {
        within = omega (arith, w.passed-is, w.if-passed-route.false);
        told = ap (λ k. follows (drop k c.args.route.now) ss) w.passed-is ∙ sym (follows_next ns at s ss w.if-not-stop.true w.if-passed-route.false w.if-route-passed.false) ∙ told;
      }
      | else-not-stop w ↦ record {
        within = omega (arith, w.passed-is, c.loop-stop.invariant.within);
        told = ap (λ k. follows (drop k c.args.route.now) ss) w.passed-is ∙ sym (follows_via (drop at ns) s ss w.if-not-stop.false) ∙ told;
      }
    ]

pub returns : goal.returns
returns c =
    let none = drop_all c.loop-stop.stop-index c.args.stops.now c.loop-stop-test.false in
    sym (follows_end c.args.route.now c.loop-stop.passed c.loop-stop.invariant.within) ∙ ap (λ l. follows (drop c.loop-stop.passed c.args.route.now) l) (sym none) ∙ c.loop-stop.invariant.told
