-- Forbidden pairs of places: which place may follow which on a route.
use Rattle.std.specs.Prelude.{◌≡◌, ℕ, Bool, true, List, [], ◌∷◌}
use Rattle.std.specs.List.{All}
use Rattle.ev_model.specs.Network.{Network}
use Rattle.ev_model.specs.declared.Stop.{Stop}
use Rattle.fleet_model.specs.Places.{places_of}

-- no two neighbouring places form a forbidden pair
abbrev pub KeepsPairs : (ℕ → ℕ → Bool) → List ℕ → Type 0
KeepsPairs allows [] = Unit {0}
KeepsPairs allows (x ∷ []) = Unit {0}
KeepsPairs allows (x ∷ y ∷ ys) = (allows x y ≡ true) × KeepsPairs allows (y ∷ ys)

-- a plan, and the plans of a fleet
abbrev pub PlanKeepsPairs : Network → (ℕ → ℕ → Bool) → List Stop → Type 0
PlanKeepsPairs g allows stops = KeepsPairs allows (places_of g stops)

abbrev pub FleetKeepsPairs : Network → (ℕ → ℕ → Bool) → List (List Stop) → Type 0
FleetKeepsPairs g allows plans = All (PlanKeepsPairs g allows) plans
