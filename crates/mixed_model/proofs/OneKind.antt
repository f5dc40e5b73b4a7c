-- With one kind, plans and covers are those of a fleet without kinds.
use Rattle.std.proofs.Common.{◌≡◌, ℕ, zero, suc, ◌*◌, ◌<◌, ◌≤◌, List, [], ◌∷◌, map, refl, sym, ap, subst, arith}
use Rattle.std.specs.List.{All}
use Rattle.std.proofs.lemmas.List.Elements.{All-cons, All-head, All-nil, All-tail}
use Rattle.ev_model.specs.Feasible.{IsFeasible}
use Rattle.ev_model.specs.Fleet.{cost_of, customers_of, IsFleetPlan, ServesOnly}
use Rattle.ev_model.specs.Network.{Network}
use Rattle.ev_model.specs.Time.{time_of}
use Rattle.ev_model.specs.declared.Stop.{Stop}
use Rattle.fleet_model.specs.Cover.{cost_of_shares, IsFleetRoute, IsFractionalCover, Share}
use Rattle.mixed_model.specs.Covers.{IsKindRoute, IsMixedCover, KindShare, mixed_cost_of_shares, plain_shares}
use Rattle.mixed_model.specs.Kinds.{network_of}
use Rattle.mixed_model.specs.Plans.{IsFeasibleIn, IsMixedPlan, KindPlan, mixed_cost, plain_plans}

-- the one kind has number 0
pub only_kind : (g : Network) (kind : ℕ) → kind < 1 → network_of (g ∷ []) kind ≡ g
only_kind g zero less = refl
only_kind g (suc kind) less = absurd (omega (arith, less))

-- what holds of all items holds of what they are looked at as, and the other way round
module _ {X Y : Type 0} (f : X → Y) (K Q : X → Type 0) (P : Y → Type 0) where
  pub all_to : ((x : X) → K x → Q x → P (f x)) → (xs : List X) → All K xs → All Q xs → All P (map f xs)
  all_to to [] known all = All-nil P
  all_to to (x ∷ xs) known all =
      All-cons P (f x) (map f xs) (to x (All-head K x xs known) (All-head Q x xs all)) (all_to to xs (All-tail K x xs known) (All-tail Q x xs all))

  pub all_from : ((x : X) → K x → P (f x) → Q x) → (xs : List X) → All K xs → All P (map f xs) → All Q xs
  all_from from [] known all = All-nil Q
  all_from from (x ∷ xs) known all =
      All-cons Q x xs (from x (All-head K x xs known) (All-head P (f x) (map f xs) all)) (all_from from xs (All-tail K x xs known) (All-tail P (f x) (map f xs) all))

abbrev stops_in : KindPlan → List Stop
stops_in p = p.stops

abbrev IsOfOne : KindPlan → Type 0
IsOfOne p = p.kind < 1

abbrev plain : KindShare → Share
plain x = record { share = x.share; plan = x.plan.stops }

abbrev ShareOfOne : KindShare → Type 0
ShareOfOne x = x.plan.kind < 1

module _ (g : Network) (k : ℕ) where
  feasible_to : (p : KindPlan) → IsOfOne p → IsFeasibleIn (g ∷ []) k p → IsFeasible g k g.capacity p.stops
  feasible_to p one feasible = subst (λ (h : Network). IsFeasible h k h.capacity p.stops) (only_kind g p.kind one) feasible

  feasible_from : (p : KindPlan) → IsOfOne p → IsFeasible g k g.capacity p.stops → IsFeasibleIn (g ∷ []) k p
  feasible_from p one feasible = subst (λ (h : Network). IsFeasible h k h.capacity p.stops) (sym (only_kind g p.kind one)) feasible

  pub plan_to : (plans : List KindPlan) → All IsOfOne plans → IsMixedPlan (g ∷ []) k plans → IsFleetPlan g k (plain_plans plans)
  plan_to plans ones plan = record {
    feasible = all_to stops_in IsOfOne (IsFeasibleIn (g ∷ []) k) (IsFeasible g k g.capacity) feasible_to plans ones plan.feasible;
    some = all_to stops_in IsOfOne (λ (p : KindPlan). customers_of g p.stops ≡ [] → ⊥) (λ (stops : List Stop). customers_of g stops ≡ [] → ⊥) (λ p one some. some) plans ones plan.some;
    only = all_to stops_in IsOfOne (λ (p : KindPlan). ServesOnly g p.stops) (ServesOnly g) (λ p one only. only) plans ones plan.only;
    once = plan.once;
  }

  pub plan_from : (plans : List KindPlan) → All IsOfOne plans → IsFleetPlan g k (plain_plans plans) → IsMixedPlan (g ∷ []) k plans
  plan_from plans ones plan = record {
    known = ones;
    feasible = all_from stops_in IsOfOne (IsFeasibleIn (g ∷ []) k) (IsFeasible g k g.capacity) feasible_from plans ones plan.feasible;
    some = all_from stops_in IsOfOne (λ (p : KindPlan). customers_of g p.stops ≡ [] → ⊥) (λ (stops : List Stop). customers_of g stops ≡ [] → ⊥) (λ p one some. some) plans ones plan.some;
    only = all_from stops_in IsOfOne (λ (p : KindPlan). ServesOnly g p.stops) (ServesOnly g) (λ p one only. only) plans ones plan.only;
    once = plan.once;
  }

  pub plan_cost : (plans : List KindPlan) → All IsOfOne plans → mixed_cost (g ∷ []) k plans ≡ cost_of g k (plain_plans plans)
  plan_cost [] ones = refl
  plan_cost (p ∷ ps) ones =
      let here = ap (λ (h : Network). time_of h k h.capacity p.stops) (only_kind g p.kind (All-head IsOfOne p ps ones)) in
      omega (arith, here, plan_cost ps (All-tail IsOfOne p ps ones))

  route_to : (x : KindShare) → ShareOfOne x → IsKindRoute (g ∷ []) k x.plan → IsFleetRoute g k x.plan.stops
  route_to x one route = subst (λ (h : Network). IsFleetRoute h k x.plan.stops) (only_kind g x.plan.kind one) route.route

  route_from : (x : KindShare) → ShareOfOne x → IsFleetRoute g k x.plan.stops → IsKindRoute (g ∷ []) k x.plan
  route_from x one route = record { known = one; route = subst (λ (h : Network). IsFleetRoute h k x.plan.stops) (sym (only_kind g x.plan.kind one)) route }

  pub cover_to : (over : ℕ) (shares : List KindShare) → All ShareOfOne shares → IsMixedCover (g ∷ []) k over shares → IsFractionalCover g k over (plain_shares shares)
  cover_to over shares ones cover = record {
    some_weight = cover.some_weight;
    some_share = all_to plain ShareOfOne (λ (x : KindShare). 1 ≤ x.share) (λ (x : Share). 1 ≤ x.share) (λ x one some. some) shares ones cover.some_share;
    routes = all_to plain ShareOfOne (λ (x : KindShare). IsKindRoute (g ∷ []) k x.plan) (λ (x : Share). IsFleetRoute g k x.plan) route_to shares ones cover.routes;
    covers = cover.covers;
  }

  pub cover_from : (over : ℕ) (shares : List KindShare) → All ShareOfOne shares → IsFractionalCover g k over (plain_shares shares) → IsMixedCover (g ∷ []) k over shares
  cover_from over shares ones cover = record {
    some_weight = cover.some_weight;
    some_share = all_from plain ShareOfOne (λ (x : KindShare). 1 ≤ x.share) (λ (x : Share). 1 ≤ x.share) (λ x one some. some) shares ones cover.some_share;
    routes = all_from plain ShareOfOne (λ (x : KindShare). IsKindRoute (g ∷ []) k x.plan) (λ (x : Share). IsFleetRoute g k x.plan) route_from shares ones cover.routes;
    covers = cover.covers;
  }

  pub cover_cost : (shares : List KindShare) → All ShareOfOne shares → mixed_cost_of_shares (g ∷ []) k shares ≡ cost_of_shares g k (plain_shares shares)
  cover_cost [] ones = refl
  cover_cost (x ∷ xs) ones =
      let here = ap (λ (h : Network). x.share * time_of h k h.capacity x.plan.stops) (only_kind g x.plan.kind (All-head ShareOfOne x xs ones)) in
      omega (arith, here, cover_cost xs (All-tail ShareOfOne x xs ones))
