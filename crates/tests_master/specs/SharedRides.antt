-- Rides of one or two customers: one alone for 8, two together for 11.
use Rattle.std.specs.Prelude.{ℕ, ◌<◌, ◌≤◌, List, [], ◌∷◌, nat_eq, if◌then◌else◌}
use Rattle.price_loop.specs.Problems.{Problem}

-- the customers of a ride, which stands for its first and its last one
abbrev pub served : ℕ × ℕ → List ℕ
served ride = if nat_eq ride.0 ride.1 then ride.0 ∷ [] else ride.0 ∷ ride.1 ∷ []

abbrev pub cost : ℕ × ℕ → ℕ
cost ride = if nat_eq ride.0 ride.1 then 8 else 11

abbrev pub rides : ℕ → Problem (ℕ × ℕ) (Unit {0})
rides customers = record {
  customers = customers;
  is_route = λ ride. (ride.0 ≤ ride.1) × (ride.1 < customers);
  served = served;
  cost = cost;
  closes = λ weight prices closing. Unit {0};
}
