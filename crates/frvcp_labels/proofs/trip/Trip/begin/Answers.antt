use Rattle.std.proofs.Common.{◌∙◌, ◌∷◌, [], ◌≤◌, ap, subst, arith}
use Rattle.std.proofs.lemmas.Grind.{common_steps}
use Rattle.label_pool.specs.Labels.{Labels}
use Rattle.route_steps.specs.Trips.{IsTrip, Journey}
use Rattle.route_steps.specs.declared.state.State.{State}
use Rattle.frvcp_labels.proofs.ChargedStates.{charged_start}
use Rattle.frvcp_labels.proofs.FullBattery.{none_full}
use Rattle.frvcp_labels.proofs.SearchTurns.{begun, start_sound}
use Rattle.frvcp_labels.proofs.trip.Trip.begin.Goals as goal

pub add_noted-requires-clause-state : goal.add_noted-requires-clause-state
add_noted-requires-clause-state c =
    start_sound c.args.self.now c.point.result (subst (λ (j : Journey). IsTrip j.network j.route) c.self.view_is c.self.invariant.trip) (subst (λ (j : Journey). j.start ≤ j.network.capacity) c.self.view_is c.self.invariant.start)
    (c.point.ensures ∙ ap (λ (j : Journey). (j.start, 0) ∷ []) c.self.view_is)

pub add_noted-requires-clause-full : goal.add_noted-requires-clause-full
add_noted-requires-clause-full c =
    none_full c.args.self.now c.in_ok-pool.pool.labels c.as_mut_slice.result.now c.buckets-buckets.result (c.as_mut_slice.ensures.value ∙ c.in_ok-full.ensures) c.buckets-buckets.ensures.value

pub returns-clause-spread : goal.returns-clause-spread
returns-clause-spread c =
    begun c.args.self.now c.in_ok-pool.pool.labels c.add_noted.new.pool.labels c.point.result (ap (λ (p : Labels State). p.labels) c.in_ok-pool.ensures) c.in_ok-add_noted.ensures.grown
    (c.point.ensures ∙ ap (λ (j : Journey). (j.start, 0) ∷ []) c.self.view_is) c.in_ok-add_noted.ensures.reached

pub add_noted-requires-clause-pool : goal.add_noted-requires-clause-pool
add_noted-requires-clause-pool = grind (arith, common_steps)

pub returns-clause-full : goal.returns-clause-full
returns-clause-full = grind (arith, common_steps)

pub returns-clause-charged : goal.returns-clause-charged
returns-clause-charged c = charged_start c.args.self.now c.in_ok-pool.pool.labels c.add_noted.new.pool.labels c.point.result (ap (λ (p : Labels State). p.labels) c.in_ok-pool.ensures) c.in_ok-add_noted.ensures.only
