use Rattle.std.proofs.Common.{◌≡◌, ◌∙◌, List, false, subst, sym}
use Rattle.std.specs.List.{All}
use Rattle.std.proofs.lemmas.List.Elements.{All-push}
use Rattle.charge_curve.specs.Points.{ArePoints}
use Rattle.route_steps.specs.declared.state.State.{State}
use Rattle.frvcp_labels.specs.Listing.{IsPointWithin, IsStateOnWay}
use Rattle.frvcp_labels.proofs.Within.{within_is_on_way}
use Rattle.frvcp_labels.proofs.trip.Trip.add_hopeless_at.Goals as goal

pub returns : goal.returns
returns c =
    let t = c.args.self.now in
    let value = c.in_ok-from_points.field-0 in
    let same : c.as_slice.result.now ≡ c.in_ok-from_points.field-0 = c.as_slice.ensures.value ∙ sym (c.in_ok-from_points.ensures ∙ c.as_slice-2.ensures.value) in
    let valid = subst ArePoints same (c.are_within.ensures.valid c.if-not-are_within.false) in
    let within = subst (All (IsPointWithin c.args.self.now.network)) same (c.are_within.ensures.within c.if-not-are_within.false) in
    subst (λ (ss : List State). All (IsStateOnWay c.args.self.now) ss) (sym c.in_ok-push.ensures.items)
    (All-push (IsStateOnWay c.args.self.now) c.args.states.now.items (record { passed = c.args.place.passed; node = c.args.place.node; charged = false; value = c.in_ok-from_points.field-0 }) c.requires.states
    (within_is_on_way t c.args.place.passed c.args.place.node false value c.requires.passed c.requires.node valid within))
