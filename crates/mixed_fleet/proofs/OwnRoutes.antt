-- The fastest route of a customer alone, over all kinds.
use Rattle.std.proofs.Common.{◌≡◌, ◌∙◌, ℕ, ◌+◌, ◌*◌, ◌<◌, ◌≤◌, true, false, List, [], ◌∷◌, ◌++◌, Option, Some, None, length, map, take, lt-ltb, le-ltb, refl, sym, ap, subst, arith, inl, inr}
use Rattle.std.specs.Prelude.{slice_index}
use Rattle.std.proofs.Math.Nat.{mul-le-mul_left}
use Rattle.std.proofs.lemmas.Bool.{cases_lt, false≢true}
use Rattle.std.proofs.lemmas.List.{get_or_default, take_more}
use Rattle.ev_model.specs.Feasible.{IsFeasible}
use Rattle.ev_model.specs.Network.{is_customer, Network}
use Rattle.ev_model.specs.Time.{time_of}
use Rattle.fleet_model.specs.Places.{customer_number}
use Rattle.route_pool.proofs.Alone.{own_column}
use Rattle.mixed_model.specs.Kinds.{network_of}
use Rattle.mixed_model.specs.Plans.{KindPlan, time_in}
use Rattle.mixed_fleet.specs.Own.{AreLeastOwn, AreOwnOf, faster_of, IsLeastBelow, IsLeastOwn, IsOwn, IsOwnBy}
use Rattle.mixed_fleet.specs.Searched.{IsSearched, searched_of}
use Rattle.mixed_fleet.specs.declared.own.OwnRoutes.{OwnRoutes}
use Rattle.mixed_fleet.specs.declared.searched.Searched.{Searched}

module _ (kinds : List Network) (kind node : ℕ) (known : kind < length kinds) (customer : is_customer (network_of kinds kind) node ≡ true) where
  abbrev g : Network
  g = network_of kinds kind

  -- a plan of a kind below the next one is of an earlier kind or of this one
  this_kind : (k : ℕ) (p : KindPlan) → IsOwn kinds k node p → p.kind ≡ kind → IsFeasible g k g.capacity p.stops
  this_kind k p own same = subst (λ (i : ℕ). IsFeasible (network_of kinds i) k (network_of kinds i).capacity p.stops) same own.feasible

  module _ (r : Searched) (by : IsOwnBy g kind node (Some r)) where
    own_searched : IsSearched kinds r
    own_searched =
        let column = own_column g node customer r.route.plan.stops by.0 in
        let made : IsSearched kinds (searched_of g kind (node ∷ []) r.route.plan) = record {
          route = record { known = known; route = column.route };
          numbers = ap (λ (cs : List ℕ). map (customer_number g) cs) (sym column.serves);
          time = refl;
        } in
        subst (IsSearched kinds) (sym by.1) made

    own_time : r.time ≡ time_of g 1 g.capacity r.route.plan.stops
    own_time = ap (λ (s : Searched). s.time) by.1

    -- no plan of this kind is faster
    no_faster : (k : ℕ) (p : KindPlan) → IsOwn kinds k node p → p.kind ≡ kind → k * r.time ≤ time_in kinds k p
    no_faster k p own same =
        let least = by.0.fastest k p.stops (this_kind k p own same) own.follows in
        let mine : k * r.time ≡ k * time_of g 1 g.capacity r.route.plan.stops = ap (λ t. k * t) own_time in
        let theirs : time_in kinds k p ≡ time_of g k g.capacity p.stops = ap (λ (i : ℕ). time_of (network_of kinds i) k (network_of kinds i).capacity p.stops) same in
        omega (arith, least, mine, theirs)

    -- it is least, where earlier kinds take no less
    least_here : ((k : ℕ) (p : KindPlan) → p.kind < kind → IsOwn kinds k node p → k * r.time ≤ time_in kinds k p) → IsLeastOwn kinds (kind + 1) node r
    least_here before = record {
      searched = own_searched;
      follows = by.0.follows;
      least = λ k p less own. elim (cases_lt p.kind kind) [
        | inl earlier ↦ before k p earlier own
        | inr here ↦ no_faster k p own (omega (arith, less, here))
      ];
    }

  -- one that was least stays so, where this kind takes no less
  least_still : (r : Searched) → IsLeastOwn kinds kind node r → ((k : ℕ) (p : KindPlan) → p.kind ≡ kind → IsOwn kinds k node p → k * r.time ≤ time_in kinds k p) → IsLeastOwn kinds (kind + 1) node r
  least_still r is here = record {
    searched = is.searched;
    follows = is.follows;
    least = λ k p less own. elim (cases_lt p.kind kind) [
      | inl earlier ↦ is.least k p earlier own
      | inr now ↦ here k p (omega (arith, less, now)) own
    ];
  }

  faster : (r s : Searched) → IsLeastOwn kinds kind node r → IsOwnBy g kind node (Some s) → IsLeastBelow kinds (kind + 1) node (faster_of (Some r) (Some s))
  faster r s is by = elim (cases_lt s.time r.time) [
    | inl less ↦
        rw (lt-ltb s.time r.time less) (least_here s by (λ k p earlier own.
        let old = is.least k p earlier own in
        let lower : k * s.time ≤ k * r.time = mul-le-mul_left k (omega (arith, less)) in
        omega (arith, old, lower)))
    | inr more ↦
        rw (le-ltb s.time r.time more) (least_still r is (λ k p now own.
        let other = no_faster s by k p own now in
        let lower : k * r.time ≤ k * s.time = mul-le-mul_left k more in
        omega (arith, other, lower)))
  ]

  pub least_step : (least other : Option Searched) → IsLeastBelow kinds kind node least → IsOwnBy g kind node other → IsLeastBelow kinds (kind + 1) node (faster_of least other)
  least_step None None before by = λ k p less own. elim (cases_lt p.kind kind) [
    | inl earlier ↦ before k p earlier own
    | inr here ↦ (let same : p.kind ≡ kind = omega (arith, less, here) in by k p.stops (this_kind k p own same) own.follows)
  ]
  least_step None (Some s) before by = least_here s by (λ k p earlier own. absurd (before k p earlier own))
  least_step (Some r) None before by = least_still r before (λ k p now own. absurd (by k p.stops (this_kind k p own now) own.follows))
  least_step (Some r) (Some s) before by = faster r s before by

-- ---- one customer more

own_push : (kinds : List Network) (nodes : List ℕ) (rs : List Searched) (node : ℕ) (r : Searched) → AreLeastOwn kinds nodes rs → IsLeastOwn kinds (length kinds) node r → AreLeastOwn kinds (nodes ++ node ∷ []) (rs ++ r ∷ [])
own_push kinds [] [] node r are is = (is, tt)
own_push kinds [] (q ∷ rs) node r are is = absurd are
own_push kinds (n ∷ nodes) [] node r are is = absurd are
own_push kinds (n ∷ nodes) (q ∷ rs) node r are is = (are.0, own_push kinds nodes rs node r are.1 is)

pub own_step : (kinds : List Network) (nodes : List ℕ) (rs : List Searched) (i : ℕ) (r : Searched) → i < length nodes → AreLeastOwn kinds (take i nodes) rs → IsLeastOwn kinds (length kinds) (slice_index nodes i) r
    → AreLeastOwn kinds (take (i + 1) nodes) (rs ++ r ∷ [])
own_step kinds nodes rs i r within are is =
    subst (λ l. AreLeastOwn kinds l (rs ++ r ∷ [])) (sym (take_more nodes i 0 within)) (own_push kinds (take i nodes) rs (slice_index nodes i) r are is)

-- ---- what was found of one customer more

module _ (kinds : List Network) (nodes : List ℕ) (i : ℕ) (within : i < length nodes) (old new : OwnRoutes) (before : AreOwnOf kinds nodes (take i nodes) old) where
  pub found_more : (r : Searched) → IsLeastOwn kinds (length kinds) (slice_index nodes i) r → new.routes.items ≡ old.routes.items ++ r ∷ [] → new.whole ≡ old.whole → AreOwnOf kinds nodes (take (i + 1) nodes) new
  found_more r is pushed same = record {
    whole = λ all. subst (λ (rs : List Searched). AreLeastOwn kinds (take (i + 1) nodes) rs) (sym pushed) (own_step kinds nodes old.routes.items i r within (before.whole (sym same ∙ all)) is);
    lacks = λ none. before.lacks (sym same ∙ none);
  }

  pub found_none : IsLeastBelow kinds (length kinds) (slice_index nodes i) None → new.whole ≡ false → AreOwnOf kinds nodes (take (i + 1) nodes) new
  found_none none lacks = record {
    whole = λ all. absurd (false≢true (sym lacks ∙ all));
    lacks = λ e. record {
      node = slice_index nodes i;
      customer = (i, within, get_or_default nodes i (slice_index nodes i) 0 within);
      none = none;
    };
  }
