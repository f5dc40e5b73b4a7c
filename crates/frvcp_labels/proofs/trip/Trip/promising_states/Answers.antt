use Rattle.std.proofs.Common.{◌≡◌, ◌∙◌, ◌++◌, ◌∷◌, [], List, ap, arith, subst, sym}
use Rattle.std.proofs.lemmas.Grind.{common_steps}
use Rattle.std.specs.List.{All}
use Rattle.std.proofs.lemmas.List.Elements.{All-push}
use Rattle.charge_curve.specs.Points.{ArePoints}
use Rattle.label_pool.proofs.Elements.{element_at}
use Rattle.route_steps.specs.declared.state.State.{State}
use Rattle.frvcp_labels.specs.Listing.{IsStateOnWay}
use Rattle.frvcp_labels.proofs.trip.Trip.promising_states.Goals as goal

pub loop-i-preserved : goal.loop-i-preserved
loop-i-preserved c =
    let count = c.len-i-end.ensures in
    let under = c.loop-i-test.true in
    let label = element_at c.args.pool.now.labels c.loop-i.i (omega (arith, under, count)) in
    let on_way = c.is_promising.ensures label.0 label.1 c.if-not-is_promising.false in
    let value = c.value.ensures label.0 label.1 in
    let same : c.in_ok-copied.field-0 ≡ label.0.value = c.in_ok-copied.ensures.same ∙ value in
    let all : c.push.new.self.items ≡ c.loop-i.states.items ++ label.0.value ∷ [] = c.in_ok-push.ensures.items ∙ ap (λ (s : State). c.loop-i.states.items ++ s ∷ []) same in
    let fits : IsStateOnWay c.args.self.now label.0.value = record {
      sound = (c.requires.pool.labels c.loop-i.i label.0 label.1).state;
      on_way = on_way;
      valid = subst (λ (s : State). ArePoints s.value) value c.in_ok-copied.ensures.valid;
    } in
    subst (λ (ss : List State). All (IsStateOnWay c.args.self.now) ss) (sym all) (All-push (IsStateOnWay c.args.self.now) c.loop-i.states.items label.0.value c.loop-i.invariant fits)

pub loop-i-init : goal.loop-i-init
loop-i-init = grind (arith, common_steps)
