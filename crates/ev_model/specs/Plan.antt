-- Plans of one vehicle. Amounts are in kths of a unit of charge; a whole plan is one with k = 1.
use Rattle.std.specs.Prelude.{◌≡◌, ◌≢◌, ℕ, ◌<◌, ◌≤◌, List, [], ◌∷◌, IsTrue, IsSome, false, ◌⊎◌}
use Rattle.ev_model.specs.Network.{Network, node_count, curve_at}
use Rattle.ev_model.specs.declared.Stop.{Stop}

-- the first and the last stop of a plan: at the depot, not inserted, and nothing is charged
abbrev pub IsEnd : Stop → Type 0
IsEnd s = s ≡ record { node = 0; added = 0; via = false }

abbrev pub EndsAtDepot : List Stop → Type 0
EndsAtDepot [] = ⊥
EndsAtDepot (s ∷ []) = IsEnd s
EndsAtDepot (s ∷ t ∷ ss) = EndsAtDepot (t ∷ ss)

-- a stop at a node of the network; one that was inserted or charges is at a station
pub record IsStop (g : Network) (s : Stop) : Type 0 where
  pub known : s.node < node_count g
  pub station : IsTrue s.via ⊎ (0 < s.added) → IsSome (curve_at g s.node)

-- stops that may follow the node `from`: neighbours are different nodes
abbrev pub AreStopsFrom : Network → ℕ → List Stop → Type 0
AreStopsFrom g from [] = Unit {0}
AreStopsFrom g from (s ∷ ss) = (s.node ≢ from) × IsStop g s × AreStopsFrom g s.node ss

-- a plan in kths: at least two stops, from the depot to the depot
abbrev pub IsPlanIn : Network → ℕ → List Stop → Type 0
IsPlanIn g k [] = ⊥
IsPlanIn g k (first ∷ stops) =
    (1 ≤ k) × IsEnd first × EndsAtDepot stops × AreStopsFrom g first.node stops

-- a whole plan
abbrev pub IsPlan : Network → List Stop → Type 0
IsPlan g stops = IsPlanIn g 1 stops
