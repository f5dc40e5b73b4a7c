use Rattle.std.proofs.Common.{◌≡◌, ◌∙◌, ◌++◌, ◌∷◌, [], ◌+◌, List, ap, arith, subst, sym}
use Rattle.std.proofs.lemmas.Grind.{common_steps}
use Rattle.charge_curve.specs.Points.{ArePoints}
use Rattle.label_pool.proofs.Elements.{element_at}
use Rattle.route_steps.specs.declared.state.State.{State}
use Rattle.frvcp_labels.specs.Listing.{IsStateOnWay}
use Rattle.frvcp_labels.proofs.LiveStates.{AreListed, all_listed, one_listed}
use Rattle.frvcp_labels.proofs.trip.Trip.live_states.Goals as goal

pub loop-i-preserved : goal.loop-i-preserved
loop-i-preserved c =
    let count = c.len-i-end.ensures in
    let under = c.loop-i-test.true in
    let label = element_at c.args.pool.now.labels c.loop-i.i (omega (arith, under, count)) in
    let wanted = (c.is_on_way.ensures label.0 label.1).0 c.if-not-is_on_way.false in
    let value = c.value.ensures label.0 label.1 in
    let same : c.in_ok-copied.field-0 ≡ label.0.value = c.in_ok-copied.ensures.same ∙ value in
    let all : c.push.new.self.items ≡ c.loop-i.states.items ++ label.0.value ∷ [] = c.in_ok-push.ensures.items ∙ ap (λ (s : State). c.loop-i.states.items ++ s ∷ []) same in
    let fits : IsStateOnWay c.args.self.now label.0.value = record {
      sound = (c.requires.pool.labels c.loop-i.i label.0 label.1).state;
      on_way = wanted.1;
      valid = subst (λ (s : State). ArePoints s.value) value c.in_ok-copied.ensures.valid;
    } in
    subst (λ (ss : List State). AreListed c.args.self.now c.args.pool.now.labels (c.loop-i.i + 1) ss) (sym all)
    (one_listed c.args.self.now c.args.pool.now.labels c.loop-i.i c.loop-i.states.items label.0 c.loop-i.invariant label.1 wanted.0 fits)

pub returns-clause-held : goal.returns-clause-held
returns-clause-held c =
    let count = c.len-i-end.ensures in
    let past = c.loop-i-test.false in
    all_listed c.args.self.now c.args.pool.now.labels c.loop-i.i c.loop-i.states.items (omega (arith, past, count)) c.loop-i.invariant

pub loop-i-init : goal.loop-i-init
loop-i-init = grind (arith, common_steps)
