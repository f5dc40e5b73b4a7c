-- The pairs of a fleet plan: which place comes next after which on a route, whatever stations stand
-- between. Place 0 is the depot, place c + 1 the customer with number c.
use Rattle.std.specs.Prelude.{ℕ, List, [], ◌∷◌, ◌++◌}
use Rattle.ev_model.specs.Network.{Network}
use Rattle.ev_model.specs.declared.Stop.{Stop}
use Rattle.fleet_model.specs.Places.{places_of}

-- each place of a list with the one that comes next after it
abbrev pub next_pairs : List ℕ → List (ℕ × ℕ)
next_pairs [] = []
next_pairs (i ∷ []) = []
next_pairs (i ∷ j ∷ js) = (i, j) ∷ next_pairs (j ∷ js)

-- the pairs of all routes. (0, j) stands for a first customer, (i, 0) for a last one
abbrev pub fleet_pairs : Network → List (List Stop) → List (ℕ × ℕ)
fleet_pairs g [] = []
fleet_pairs g (plan ∷ plans) = next_pairs (places_of g plan) ++ fleet_pairs g plans
