-- What is answered is in the ranges of proofs.
use Rattle.std.proofs.Common.{ℕ, ◌≤◌, List, [], ◌∷◌, Option, Some, None, arith, map}
use Rattle.std.specs.Prelude.{MatchOption}
use Rattle.std.specs.List.{All}
use Rattle.std.proofs.lemmas.List.Elements.{All-cons, All-head, All-nil, All-tail}
use Rattle.charge_curve.specs.Points.{ArePoints, last_level, time_on}
use Rattle.dominance.proofs.Pieces.{time_on-before, time_on-later}
use Rattle.ev_model.specs.Fastest.{HasNoPlan, IsFastest}
use Rattle.ev_model.specs.Network.{IsNetwork, Network, scaled_limit}
use Rattle.piece_fn.proofs.Levels.{first_is_least, is_level, time_at-level_times}
use Rattle.piece_fn.specs.PieceFn.{first_level}
use Rattle.certificate_parts.specs.Ranges.{PointFits}
use Rattle.frvcp_labels.specs.Listing.{IsStateOnWay}
use Rattle.route_plan.specs.declared.plan.RoutePlan.{RoutePlan}
use Rattle.route_proof.specs.Closed.{IsTrue}
use Rattle.route_proof.specs.Ranges.{ListedPlanFits, RouteLabelFits}
use Rattle.route_steps.specs.Trips.{Journey}
use Rattle.route_steps.specs.declared.state.State.{State}
use Rattle.route_plan.proofs.PlanRanges.{feasible_fits}
use Rattle.fixed_certificate.specs.Labels.{label_of}

-- what a solver answers is what a proof of it is to show
pub is_true : (t : Journey) (plan : Option RoutePlan) → MatchOption plan (HasNoPlan t.network t.route t.start) (λ p. IsFastest t.network t.route t.start p.stops) → IsTrue t plan
is_true t None is = is
is_true t (Some plan) is = is

pub plan_fits : (t : Journey) (plan : Option RoutePlan) → IsNetwork t.network → IsTrue t plan → ListedPlanFits plan
plan_fits t None network is = record {}
plan_fits t (Some plan) network is = feasible_fits t.network t.start plan.stops network is.feasible

-- the supporting points of a value are among its levels
points_fit : (g : Network) (ps : List (ℕ × ℕ)) → ArePoints ps → ((level : ℕ) → first_level ps ≤ level → level ≤ last_level ps → (level ≤ g.capacity) × (time_on ps level ≤ scaled_limit g)) → All (PointFits g) ps
points_fit g [] are within = absurd are
points_fit g (p ∷ []) are within =
    All-cons (PointFits g) p [] (within p.0 (omega arith) (omega arith)) (All-nil (PointFits g))
points_fit g (p ∷ q ∷ ps) are within =
    let own = within p.0 (omega arith) (first_is_least (p ∷ q ∷ ps) are) in
    let time = time_on-before p (q ∷ ps) p.0 are (omega arith) in
    All-cons (PointFits g) p (q ∷ ps) (own.0, omega (arith, own.1, time)) (points_fit g (q ∷ ps) are.3 (λ level low high.
    let up = are.0 in
    let both = within level (omega (arith, up, low)) high in
    let same = time_on-later p q ps level are low in
    (both.0, omega (arith, both.1, same))))

pub state_fits : (t : Journey) (s : State) → IsStateOnWay t s → RouteLabelFits t.network t.route (label_of s)
state_fits t s is = record {
  passed = (let on_way = is.on_way in omega (arith, on_way));
  node = is.sound.node;
  valid = is.valid;
  points = points_fit t.network s.value is.valid (λ level low high.
      let there = is_level s.value level is.valid low high in
      let same = time_at-level_times s.value level is.valid there in
      let time = is.sound.times level there in
      (is.sound.levels level there, omega (arith, same, time)));
}

pub states_fit : (t : Journey) (states : List State) → All (IsStateOnWay t) states → All (RouteLabelFits t.network t.route) (map label_of states)
states_fit t [] all = All-nil (RouteLabelFits t.network t.route)
states_fit t (s ∷ ss) all = All-cons (RouteLabelFits t.network t.route) (label_of s) (map label_of ss) (state_fits t s (All-head (IsStateOnWay t) s ss all)) (states_fit t ss (All-tail (IsStateOnWay t) s ss all))
