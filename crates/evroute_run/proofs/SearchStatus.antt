-- What the status of a search tells of its answer.
use Rattle.std.proofs.Common.{◌≡◌, ◌↔◌, ℕ, ◌<◌, Bool, true, false, IsTrue, Option, None, Some, IfSome, arith, length, refl, subst, sym}
use Rattle.std.proofs.lemmas.Bool.{false≢true}
use Rattle.std.proofs.lemmas.Option.{none-some, same_Some}
use Rattle.certificate_check.specs.Truth.{IsTrueBound}
use Rattle.ev_fleet.specs.Outcome.{IsOutcome, LeavesGap}
use Rattle.ev_fleet.specs.Plans.{IsHeld, cost_held}
use Rattle.ev_fleet.specs.declared.outcome.Outcome.{Outcome}
use Rattle.ev_model.specs.Fleet.{IsFleetPlan}
use Rattle.ev_model.specs.Network.{Network}
use Rattle.plan_check.specs.FleetRules.{stops_of}
use Rattle.route_plan.specs.declared.plan.FleetPlan.{FleetPlan}
use Rattle.evroute_run.specs.FleetAnswer.{IsClosed, StatusTells, search_status}
use Rattle.job_frame.specs.declared.status.Status.{Status}
use Rattle.job_frame.specs.declared.status.Status.TheVariants as status

-- a budget, the nodes that were looked at, cost and bound, and whether the search was stopped
abbrev EndsWell : Option ℕ → ℕ → Option ℕ → Option ℕ → Bool → Type 0
EndsWell budget nodes cost bound stopped = IsTrue stopped ↔ ((budget ≡ Some nodes) × LeavesGap cost bound)

no_gap : (cost : Option ℕ) → LeavesGap cost None → ⊥
no_gap None gap = gap
no_gap (Some c) gap = gap

no_gap_within : (cost : Option ℕ) (n b : ℕ) → cost ≡ Some n → b ≡ n → LeavesGap cost (Some b) → ⊥
no_gap_within cost n b is same gap =
    let less : b < n = subst (λ (c : Option ℕ). LeavesGap c (Some b)) is gap in
    omega (arith, same, less)

done_tells : (budget : Option ℕ) (nodes : ℕ) (cost bound : Option ℕ) (stopped : Bool) → EndsWell budget nodes cost bound stopped → (stopped ≡ false → cost ≡ bound) →
    (search_status bound stopped ≡ status.Done) ↔ IsClosed cost bound
done_tells budget nodes cost None stopped ends closed = (λ is. absurd (cc), λ h. absurd (none-some h.0 h.2))
done_tells budget nodes cost (Some b) true ends closed =
    (λ is. absurd (cc), λ h. absurd (no_gap_within cost h.0 b h.1 (same_Some b h.0 h.2) (ends.0 refl).1))
done_tells budget nodes cost (Some b) false ends closed = (λ is. (b, closed refl, refl), λ h. refl)

negative_tells : (bound : Option ℕ) (stopped : Bool) → (search_status bound stopped ≡ status.Negative) ↔ (bound ≡ None)
negative_tells None stopped = (λ is. refl, λ is. refl)
negative_tells (Some b) true = (λ is. absurd (cc), λ is. absurd (cc))
negative_tells (Some b) false = (λ is. absurd (cc), λ is. absurd (cc))

stopped_tells : (budget : Option ℕ) (nodes : ℕ) (cost bound : Option ℕ) (stopped : Bool) → EndsWell budget nodes cost bound stopped →
    (search_status bound stopped ≡ status.Stopped) ↔ ((budget ≡ Some nodes) × LeavesGap cost bound)
stopped_tells budget nodes cost None stopped ends = (λ is. absurd (cc), λ h. absurd (no_gap cost h.1))
stopped_tells budget nodes cost (Some b) true ends = (λ is. ends.0 refl, λ h. refl)
stopped_tells budget nodes cost (Some b) false ends = (λ is. absurd (cc), λ h. absurd (false≢true (ends.1 h)))

held_plan : (g : Network) (plan : Option FleetPlan) (n : ℕ) → IfSome plan (IsHeld g) → cost_held g plan ≡ Some n → (p : FleetPlan) × IsFleetPlan g 1 (stops_of p.routes)
held_plan g None n held is = absurd (cc)
held_plan g (Some p) n held is = (p, held.fleet)

no_budget : (nodes : ℕ) (budget : Option ℕ) → budget ≡ None → budget ≡ Some nodes → ⊥
no_budget nodes None none some = cc
no_budget nodes (Some n) none some = cc

none_tells : (g : Network) (budget : Option ℕ) (nodes : ℕ) (plan : Option FleetPlan) (bound : Option ℕ) (stopped : Bool) → IfSome plan (IsHeld g) →
    EndsWell budget nodes (cost_held g plan) bound stopped → (stopped ≡ false → cost_held g plan ≡ bound) →
    budget ≡ None → IsTrueBound g None → search_status bound stopped ≡ status.Negative
none_tells g budget nodes plan None stopped held ends closed none no_plan = refl
none_tells g budget nodes plan (Some b) true held ends closed none no_plan = absurd (no_budget nodes budget none (ends.0 refl).0)
none_tells g budget nodes plan (Some b) false held ends closed none no_plan =
    let found = held_plan g plan b held (closed refl) in
    absurd (no_plan 1 (stops_of found.0.routes) found.1)

pub status_tells : (g : Network) (budget : Option ℕ) (o : Outcome) (ended : Status) → IsOutcome g budget o → IsTrueBound g o.certificate.bound →
    ended ≡ search_status o.certificate.bound o.stopped → StatusTells g budget o ended
status_tells g budget o ended is bounds ended_is =
    let bound = o.certificate.bound in
    let cost = cost_held g o.plan in
    let counts = sym is.nodes in
    let ends : EndsWell budget (length o.certificate.sections) cost bound o.stopped =
    subst (λ (n : ℕ). EndsWell budget n cost bound o.stopped) counts is.gap.stopped in
    subst (λ (s : Status). StatusTells g budget o s) (sym ended_is) (record {
      done = done_tells budget (length o.certificate.sections) cost bound o.stopped ends is.gap.closed;
      stopped = stopped_tells budget (length o.certificate.sections) cost bound o.stopped ends;
      negative = negative_tells bound o.stopped;
      infeasible = λ negative. subst (λ (b : Option ℕ). IsTrueBound g b) ((negative_tells bound o.stopped).0 negative) bounds;
      complete = none_tells g budget (length o.certificate.sections) o.plan bound o.stopped is.plan ends is.gap.closed;
    })
