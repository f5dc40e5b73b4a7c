use Rattle.std.proofs.Common.{◌≡◌, ◌≢◌, ℕ, zero, suc, ◌<◌, ◌≤◌, true, List, [], ◌∷◌, refl, arith, rules, inl, inr}
use Rattle.std.specs.List.{All}
use Rattle.std.proofs.lemmas.Bool.{cases_eq, eq-eqb, ne_eqb, false≢true}
use Rattle.std.proofs.lemmas.Int.{ints}
use Rattle.std.proofs.lemmas.List.Elements.{All-cons, All-nil}
use Rattle.ev_model.specs.Curve.{charge_time_in}
use Rattle.ev_model.specs.Fleet.{all_customers, customers_of, ServesOnly, times_in}
use Rattle.ev_model.specs.Network.{is_customer, Network}
use Rattle.fleet_model.specs.ClosedList.{IsClosed}
use Rattle.fleet_model.specs.Cover.{IsFleetRoute, shares_of}
use Rattle.fleet_model.proofs.Test.{closed}
use Rattle.piece_fn.specs.PieceFn.{level_times}
use Rattle.mixed_model.specs.Accepted.{AreClosed}
use Rattle.mixed_model.specs.Covers.{IsExactCover, IsKindRoute, KindShare, plain_shares}
use Rattle.mixed_model.specs.Examples.{nearest, priced_at, to_customer, two_kinds}
use Rattle.mixed_model.specs.Kinds.{Agrees, first_of, network_of}
use Rattle.mixed_model.specs.Meaning.{kind_plan, kind_plans, kind_shares, section_of}
use Rattle.mixed_model.specs.Plans.{IsFeasibleIn, KindPlan, plain_plans}
use Rattle.mixed_model.proofs.examples.two_kinds_of_vehicles.Goals as goal

pub returns-clause-agree : goal.returns-clause-agree
returns-clause-agree c = record {
  some = search rules;
  few = search rules;
  agree = All-cons (Agrees (first_of two_kinds)) (network_of two_kinds 0) (network_of two_kinds 1 ∷ []) (record { nodes = refl; customers = refl; denominator = refl })
      (All-cons (Agrees (first_of two_kinds)) (network_of two_kinds 1) [] (record { nodes = refl; customers = refl; denominator = refl }) (All-nil (Agrees (first_of two_kinds))));
}

drives_first : IsFeasibleIn two_kinds 1 (kind_plan (to_customer 1 1))
unfolding charge_time_in
drives_first = record { plan = search rules; battery = search rules; in_time = omega arith }

drives_second : IsFeasibleIn two_kinds 1 (kind_plan (to_customer 0 2))
unfolding charge_time_in
drives_second = record { plan = search rules; battery = search rules; in_time = omega arith }

once : (c node : ℕ) → times_in (c ∷ []) node ≤ 1
once c node = elim (cases_eq c node) [
  | inl same ↦ rw (eq-eqb c node same) (omega arith)
  | inr other ↦ rw (ne_eqb c node other) (omega arith)
]

route_first : IsKindRoute two_kinds 1 (kind_plan (to_customer 1 1))
route_first = record { known = search rules; route = record { feasible = drives_first; some = λ none. grind (arith, none); only = refl; once = λ node is. once 1 node } }

route_second : IsKindRoute two_kinds 1 (kind_plan (to_customer 0 2))
route_second = record { known = search rules; route = record { feasible = drives_second; some = λ none. grind (arith, none); only = refl; once = λ node is. once 2 node } }

each : (P : KindPlan → Type 0) → P (kind_plan (to_customer 1 1)) → P (kind_plan (to_customer 0 2)) → All P (kind_plans nearest)
each P one two = All-cons P (kind_plan (to_customer 1 1)) (kind_plan (to_customer 0 2) ∷ []) one (All-cons P (kind_plan (to_customer 0 2)) [] two (All-nil P))

served : (node : ℕ) → node < 3 → is_customer (first_of two_kinds) node ≡ true → times_in (all_customers (first_of two_kinds) (plain_plans (kind_plans nearest))) node ≡ 1
served zero lt is = absurd (false≢true is)
served (suc zero) lt is = refl
served (suc (suc zero)) lt is = refl
served (suc (suc (suc node))) lt is = absurd (omega (arith, lt))

pub returns-clause-plan : goal.returns-clause-plan
returns-clause-plan c = record {
  known = each (λ (p : KindPlan). p.kind < 2) (search rules) (search rules);
  feasible = each (IsFeasibleIn two_kinds 1) drives_first drives_second;
  some = each (λ (p : KindPlan). customers_of (first_of two_kinds) p.stops ≢ []) (λ none. grind (arith, none)) (λ none. grind (arith, none));
  only = each (λ (p : KindPlan). ServesOnly (first_of two_kinds) p.stops) refl refl;
  once = served;
}

pub returns-clause-cost : goal.returns-clause-cost
unfolding charge_time_in
returns-clause-cost c = refl

listed : List KindShare
listed = kind_shares (record { share = 1; route = to_customer 1 1 } ∷ record { share = 1; route = to_customer 0 2 } ∷ [])

covered : (node : ℕ) → node < 3 → is_customer (first_of two_kinds) node ≡ true → shares_of (first_of two_kinds) (plain_shares listed) node ≡ 1
unfolding listed
covered zero lt is = absurd (false≢true is)
covered (suc zero) lt is = refl
covered (suc (suc zero)) lt is = refl
covered (suc (suc (suc node))) lt is = absurd (omega (arith, lt))

both : (P : KindShare → Type 0) → P (record { share = 1; plan = kind_plan (to_customer 1 1) }) → P (record { share = 1; plan = kind_plan (to_customer 0 2) }) → All P listed
unfolding listed
both P one two =
    All-cons P (record { share = 1; plan = kind_plan (to_customer 1 1) }) (record { share = 1; plan = kind_plan (to_customer 0 2) } ∷ []) one (All-cons P (record { share = 1; plan = kind_plan (to_customer 0 2) }) [] two (All-nil P))

closed_at : AreClosed two_kinds (priced_at 6 8)
unfolding charge_time_in level_times
closed_at zero known = closed (network_of two_kinds 0) (section_of (priced_at 6 8) 0) refl
closed_at (suc zero) known = closed (network_of two_kinds 1) (section_of (priced_at 6 8) 1) refl
closed_at (suc (suc kind)) known = absurd (omega (arith, known))

pub returns-clause-accepted : goal.returns-clause-accepted
unfolding charge_time_in listed
returns-clause-accepted c = record {
  closed = closed_at;
  bound = inl (omega (arith, ints));
  root = record {
    cover = record {
      some_weight = search rules;
      some_share = both (λ (x : KindShare). 1 ≤ x.share) (search rules) (search rules);
      routes = both (λ (x : KindShare). IsKindRoute two_kinds 1 x.plan) route_first route_second;
      covers = covered;
    };
    some_weight = search rules;
    cost = refl;
  };
}
