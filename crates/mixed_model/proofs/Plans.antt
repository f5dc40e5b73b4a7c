-- A plan of a fleet of several kinds is a fractional cover, each plan with a share of 1.
use Rattle.std.proofs.Common.{◌≡◌, ◌≢◌, ◌∙◌, ℕ, ◌<◌, ◌≤◌, true, List, [], ◌∷◌, ◌++◌, length, map, refl, sym, ap, subst, arith, inl, inr}
use Rattle.std.specs.List.{All}
use Rattle.std.proofs.lemmas.Bool.{cases_lt}
use Rattle.std.proofs.lemmas.List.Elements.{All-cons, All-get_or, All-head, All-map, All-nil, All-tail}
use Rattle.ev_model.specs.Fleet.{all_customers, customers_of, ServesOnly, times_in}
use Rattle.ev_model.specs.Network.{is_customer, Network, node_count}
use Rattle.fleet_model.specs.Cover.{shares_of}
use Rattle.fleet_model.proofs.Counts.{times_append}
use Rattle.fleet_model.proofs.Fleets.{plan_below}
use Rattle.fleet_model.proofs.Weighed.{times_above}
use Rattle.mixed_model.specs.Covers.{IsKindRoute, IsMixedCover, KindShare, mixed_cost_of_shares, plain_shares}
use Rattle.mixed_model.specs.Kinds.{Agrees, AreKinds, first_of, network_of, no_network}
use Rattle.mixed_model.specs.Plans.{IsFeasibleIn, IsMixedPlan, KindPlan, mixed_cost, plain_plans}
use Rattle.mixed_model.proofs.AgreeingNetworks.{same_customer, same_customers}
use Rattle.mixed_model.proofs.Known.{plan_known}

abbrev one_share : KindPlan → KindShare
one_share p = record { share = 1; plan = p }

abbrev pub ones : List KindPlan → List KindShare
ones plans = map one_share plans

pub cost_of_ones : (kinds : List Network) (k : ℕ) (plans : List KindPlan) → mixed_cost_of_shares kinds k (ones plans) ≡ mixed_cost kinds k plans
cost_of_ones kinds k [] = refl
cost_of_ones kinds k (p ∷ ps) = omega (arith, cost_of_ones kinds k ps)

shares_of_ones : (g : Network) (plans : List KindPlan) (node : ℕ) → shares_of g (plain_shares (ones plans)) node ≡ times_in (all_customers g (plain_plans plans)) node
shares_of_ones g [] node = refl
shares_of_ones g (p ∷ ps) node =
    let both = times_append (customers_of g p.stops) (all_customers g (plain_plans ps)) node in
    omega (arith, both, shares_of_ones g ps node)

some_ones : (plans : List KindPlan) → All (λ (x : KindShare). 1 ≤ x.share) (ones plans)
some_ones plans = All-map (λ (x : KindShare). 1 ≤ x.share) one_share plans (λ k d within. omega arith)

module _ (kinds : List Network) (are : AreKinds kinds) (k : ℕ) where
  abbrev IsKnown : KindPlan → Type 0
  IsKnown p = p.kind < length kinds

  abbrev HasSome : KindPlan → Type 0
  HasSome p = customers_of (first_of kinds) p.stops ≢ []

  abbrev IsOnly : KindPlan → Type 0
  IsOnly p = ServesOnly (first_of kinds) p.stops

  kind_route : (p : KindPlan) → IsKnown p → IsFeasibleIn kinds k p → HasSome p → IsOnly p →
      ((node : ℕ) → node < node_count (first_of kinds) → is_customer (first_of kinds) node ≡ true → times_in (customers_of (first_of kinds) p.stops) node ≤ 1) → IsKindRoute kinds k p
  kind_route p known feasible some only once =
      let g = network_of kinds p.kind in
      let agrees = All-get_or (Agrees (first_of kinds)) kinds p.kind no_network known are.agree in
      let same = same_customers (first_of kinds) g agrees p.stops (plan_known g k g.capacity p.stops feasible) in
      record {
        known = known;
        route = record {
          feasible = feasible;
          some = λ none. some (sym same ∙ none);
          only = only ∙ ap (λ (cs : List ℕ). 0 ∷ cs ++ 0 ∷ []) (sym same);
          once = λ node is. elim (cases_lt node (node_count g)) [
            | inl less ↦
                let theirs : is_customer (first_of kinds) node ≡ true = sym (same_customer (first_of kinds) g agrees node less) ∙ is in
                subst (λ (cs : List ℕ). times_in cs node ≤ 1) (sym same) (once node (omega (arith, less, agrees.nodes)) theirs)
            | inr more ↦ omega (arith, times_above (customers_of g p.stops) (node_count g) node (plan_below g k g.capacity p.stops feasible) more)
          ];
        };
      }

  kind_routes : (plans : List KindPlan) → All IsKnown plans → All (IsFeasibleIn kinds k) plans → All HasSome plans → All IsOnly plans →
      ((node : ℕ) → node < node_count (first_of kinds) → is_customer (first_of kinds) node ≡ true → times_in (all_customers (first_of kinds) (plain_plans plans)) node ≤ 1) →
      All (λ (x : KindShare). IsKindRoute kinds k x.plan) (ones plans)
  kind_routes [] known feasible some only once = All-nil (λ (x : KindShare). IsKindRoute kinds k x.plan)
  kind_routes (p ∷ ps) known feasible some only once =
      let P = λ (x : KindShare). IsKindRoute kinds k x.plan in
      let each = λ (node : ℕ). times_append (customers_of (first_of kinds) p.stops) (all_customers (first_of kinds) (plain_plans ps)) node in
      let here = kind_route p (All-head IsKnown p ps known) (All-head (IsFeasibleIn kinds k) p ps feasible) (All-head HasSome p ps some) (All-head IsOnly p ps only)
      (λ node less is. omega (arith, each node, once node less is)) in
      let rest = kind_routes ps (All-tail IsKnown p ps known) (All-tail (IsFeasibleIn kinds k) p ps feasible) (All-tail HasSome p ps some) (All-tail IsOnly p ps only)
      (λ node less is. omega (arith, each node, once node less is)) in
      All-cons P (one_share p) (ones ps) here rest

  pub plan_is_cover : (plans : List KindPlan) → IsMixedPlan kinds k plans → IsMixedCover kinds k 1 (ones plans)
  plan_is_cover plans plan = record {
    some_weight = omega arith;
    some_share = some_ones plans;
    routes = kind_routes plans plan.known plan.feasible plan.some plan.only (λ node less is. omega (arith, plan.once node less is));
    covers = λ node less is. shares_of_ones (first_of kinds) plans node ∙ plan.once node less is;
  }
