use Rattle.std.proofs.Common.{◌≡◌, ℕ, zero, suc, ◌<◌, ◌≤◌, true, refl, [], ◌∷◌, arith, rules, inl, inr}
use Rattle.std.proofs.lemmas.Bool.{cases_eq, eq-eqb, ne_eqb, false≢true}
use Rattle.std.proofs.lemmas.Int.{ints}
use Rattle.std.proofs.lemmas.List.Elements.{All-cons, All-nil}
use Rattle.ev_model.specs.Curve.{charge_time_in}
use Rattle.ev_model.specs.Examples.OneStation.{charging_before, one_station}
use Rattle.ev_model.specs.Feasible.{IsFeasible}
use Rattle.ev_model.specs.Fleet.{times_in}
use Rattle.ev_model.specs.Network.{is_customer}
use Rattle.fleet_model.specs.Cover.{IsFleetRoute, Share, shares_of}
use Rattle.fleet_model.specs.Examples.OneStation.{priced_at, shares}
use Rattle.fleet_model.proofs.examples.one_station_is_an_exact_root.Goals as goal

once : (node : ℕ) → times_in (1 ∷ []) node ≤ 1
once node = elim (cases_eq 1 node) [
  | inl same ↦ rw (eq-eqb 1 node same) (omega arith)
  | inr other ↦ rw (ne_eqb 1 node other) (omega arith)
]

drives : IsFeasible one_station 1 10 (charging_before 1)
unfolding charge_time_in
drives = record { plan = search rules; battery = search rules; in_time = omega arith }

route : IsFleetRoute one_station 1 (charging_before 1)
route = record { feasible = drives; some = λ none. grind (arith, none); only = refl; once = λ node is. once node }

covered : (node : ℕ) → node < 3 → is_customer one_station node ≡ true → shares_of one_station shares node ≡ 1
covered zero lt is = absurd (false≢true is)
covered (suc zero) lt is = refl
covered (suc (suc zero)) lt is = absurd (false≢true is)
covered (suc (suc (suc node))) lt is = absurd (omega (arith, lt))

pub returns-clause-root : goal.returns-clause-root
unfolding charge_time_in
returns-clause-root c = record {
  cover = record {
    some_weight = search rules;
    some_share = search rules;
    routes = All-cons (λ (x : Share). IsFleetRoute one_station 1 x.plan) (record { share = 1; plan = charging_before 1 }) [] route (All-nil (λ (x : Share). IsFleetRoute one_station 1 x.plan));
    covers = covered;
  };
  some_weight = search rules;
  cost = refl;
}

pub returns-clause-bound : goal.returns-clause-bound
returns-clause-bound c = (priced_at 43, refl, record { pairs = λ a b is. is; bounded = inl (omega (arith, ints)) })
