-- Each whole plan takes as long as its prices ask.
use Rattle.std.proofs.Common.{◌≡◌, ◌∙◌, ℕ, ◌+◌, ◌*◌, ◌≤◌, true, refl, sym, ap, subst, List, [], ◌∷◌, ◌++◌, length, arith, inl, inr}
use Rattle.std.specs.Prelude.{filter, pos, ◌≤ℤ◌}
use Rattle.std.proofs.lemmas.Bool.{cases_Bool, false≢true}
use Rattle.std.proofs.lemmas.Int.{ints}
use Rattle.ev_model.specs.Feasible.{IsFeasible}
use Rattle.ev_model.specs.Fleet.{customers_of, ServesOnly, times_in}
use Rattle.ev_model.specs.Levels.{KeepsBatteryFrom, level_after}
use Rattle.ev_model.specs.Network.{Network, IsNetwork, is_customer, scaled_limit}
use Rattle.ev_model.specs.Plan.{EndsAtDepot}
use Rattle.ev_model.specs.Route.{route_of}
use Rattle.ev_model.specs.Time.{time_from, time_of}
use Rattle.ev_model.specs.declared.Stop.{Stop}
use Rattle.fleet_model.specs.Pairs.{PlanKeepsPairs}
use Rattle.fleet_model.specs.Places.{numbers_of}
use Rattle.fleet_model.specs.Prices.{price_sum}
use Rattle.fleet_model.specs.Section.{Section, IsSectionOf}
use Rattle.fleet_model.specs.Steps.{start}
use Rattle.fleet_model.specs.ClosedList.{IsClosed}
use Rattle.fleet_model.proofs.Counts.{AreCustomers, numbers_once, once_is_new}
use Rattle.fleet_model.proofs.Sound.{HasNoStray, IsRest, home_stop, pays}

abbrev rest_of : List ℕ → List ℕ
rest_of [] = []
rest_of (x ∷ xs) = xs

length_more : (xs : List ℕ) → length (xs ++ 0 ∷ []) ≡ length xs + 1
length_more [] = refl
length_more (x ∷ xs) = omega (arith, length_more xs)

-- the customers of a plan are customers
pub filtered : (g : Network) (xs : List ℕ) → AreCustomers g (filter (is_customer g) xs)
filtered g [] = tt
filtered g (x ∷ xs) = elim (cases_Bool (is_customer g x)) [
  | inl is ↦ rw is (is, filtered g xs)
  | inr other ↦ rw other (filtered g xs)
]

-- stops that end at the depot have fewer customers than nodes in their route
fewer : (g : Network) (stops : List Stop) → EndsAtDepot stops → length (customers_of g stops) + 1 ≤ length (route_of stops)
fewer g [] ends = absurd ends
fewer g (s ∷ []) ends = subst (λ (x : Stop). length (customers_of g (x ∷ [])) + 1 ≤ length (route_of (x ∷ []))) (sym ends) (omega arith)
fewer g (s ∷ t ∷ ss) ends =
    let rest = fewer g (t ∷ ss) ends in
    elim (cases_Bool s.via) [
      | inl via ↦ rw via rest
      | inr own ↦ elim (cases_Bool (is_customer g s.node)) [
        | inl is ↦ rw (own, is) (omega (arith, rest))
        | inr other ↦ rw (own, other) (omega (arith, rest))
      ]
    ]

-- where a route is its customers and the depot, each stop before the last that was not inserted is at a customer
no_stray : (g : Network) (stops : List Stop) → EndsAtDepot stops → route_of stops ≡ customers_of g stops ++ 0 ∷ [] → HasNoStray g stops
no_stray g [] ends only = tt
no_stray g (s ∷ []) ends only = tt
no_stray g (s ∷ t ∷ ss) ends only = elim (cases_Bool s.via) [
  | inl via ↦ ((λ own. absurd (false≢true (sym own ∙ via))), no_stray g (t ∷ ss) ends (rw via at only))
  | inr own ↦ elim (cases_Bool (is_customer g s.node)) [
    | inl is ↦ ((λ o. is), no_stray g (t ∷ ss) ends (ap rest_of (rw (own, is) at only)))
    | inr other ↦
        let short : s.node ∷ route_of (t ∷ ss) ≡ customers_of g (t ∷ ss) ++ 0 ∷ [] = rw (own, other) at only in
        absurd (omega (arith, ap length short, length_more (customers_of g (t ∷ ss)), fewer g (t ∷ ss) ends))
  ]
]

from_depot : (g : Network) (s : Section) (stops : List Stop) → IsNetwork g → IsSectionOf g s → IsClosed g s
    → IsFeasible g 1 g.capacity (home_stop ∷ stops) → ServesOnly g (home_stop ∷ stops) → PlanKeepsPairs g s.allows (home_stop ∷ stops)
    → ((node : ℕ) → is_customer g node ≡ true → times_in (customers_of g (home_stop ∷ stops)) node ≤ 1)
    → price_sum s.prices (numbers_of g (home_stop ∷ stops)) ≤ℤ pos (s.weight * time_of g 1 g.capacity (home_stop ∷ stops))
from_depot g s stops network of closed feasible only keeps once =
    let full : 1 * g.capacity ≡ g.capacity = omega arith in
    let kept : KeepsBatteryFrom g 1 0 g.capacity stops = rw full at feasible.battery.0 in
    let home : 1 * g.home_level ≤ level_after g 1 0 g.capacity stops = rw full at feasible.battery.1 in
    let in_time : time_from g 1 0 g.capacity stops ≤ 1 * scaled_limit g = rw full at feasible.in_time in
    let few = numbers_once g (customers_of g stops) (filtered g (route_of stops)) once in
    let rest : IsRest g s (start g) stops = record {
      are_stops = feasible.plan.3;
      battery = kept;
      home = home;
      in_time = omega (arith, in_time);
      pairs = keeps;
      new = once_is_new [] (numbers_of g stops) (λ c. omega (arith, few c));
      none_yet = λ h. refl;
    } in
    let paid = pays g s (start g) stops network of closed closed.begins feasible.plan.2 (no_stray g stops feasible.plan.2 (ap rest_of only)) rest in
    rw full (omega (arith, ints, paid))

pub plan_pays : (g : Network) (s : Section) (plan : List Stop) → IsNetwork g → IsSectionOf g s → IsClosed g s
    → IsFeasible g 1 g.capacity plan → ServesOnly g plan → PlanKeepsPairs g s.allows plan → ((node : ℕ) → is_customer g node ≡ true → times_in (customers_of g plan) node ≤ 1)
    → price_sum s.prices (numbers_of g plan) ≤ℤ pos (s.weight * time_of g 1 g.capacity plan)
plan_pays g s [] network of closed feasible only keeps once = absurd feasible.plan
plan_pays g s (first ∷ stops) network of closed feasible only keeps once =
    subst (λ (x : Stop). IsFeasible g 1 g.capacity (x ∷ stops) → ServesOnly g (x ∷ stops) → PlanKeepsPairs g s.allows (x ∷ stops)
    → ((node : ℕ) → is_customer g node ≡ true → times_in (customers_of g (x ∷ stops)) node ≤ 1)
    → price_sum s.prices (numbers_of g (x ∷ stops)) ≤ℤ pos (s.weight * time_of g 1 g.capacity (x ∷ stops)))
    (sym feasible.plan.1) (from_depot g s stops network of closed) feasible only keeps once
