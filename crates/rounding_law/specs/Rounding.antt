-- Whole plans that a plan in kths rounds to, one for each offset below k.
use Rattle.std.specs.Prelude.{◌≡◌, ℕ, ◌+◌, ◌-◌, ◌/◌, ◌*◌, ◌<◌, List, [], ◌∷◌, map}
use Rattle.std.specs.List.{All}
use Rattle.ev_model.specs.Levels.{arriving_level, leaving_level, levels_of}
use Rattle.ev_model.specs.Network.{Network, plug_time}
use Rattle.ev_model.specs.Time.{time_of}
use Rattle.ev_model.specs.declared.Stop.{Stop}

-- the whole level that a level of z kths becomes with the offset j: it is rounded down after j kths were added
abbrev pub whole_level : ℕ → ℕ → ℕ → ℕ
whole_level k j z = (z + j) / k

-- a stop in whole units: the amount is the difference of its whole levels
abbrev pub rounded_stop : Network → ℕ → ℕ → ℕ → ℕ → Stop → Stop
rounded_stop g k j from level s = record {
  node = s.node;
  added = whole_level k j (leaving_level g k from level s)
      - whole_level k j (arriving_level g k from level s);
  via = s.via;
}

-- the stops that follow the node `from`, which is left with `level`, in whole units
abbrev pub rounded_from : Network → ℕ → ℕ → ℕ → ℕ → List Stop → List Stop
rounded_from g k j from level [] = []
rounded_from g k j from level (s ∷ ss) =
    rounded_stop g k j from level s ∷ rounded_from g k j s.node (leaving_level g k from level s) ss

-- a plan in kths from a whole level, in whole units
abbrev pub rounded_plan : Network → ℕ → ℕ → ℕ → List Stop → List Stop
rounded_plan g k j start [] = []
rounded_plan g k j start (first ∷ stops) = first ∷ rounded_from g k j first.node (k * start) stops

-- the scaled time of the whole plan with the offset j
abbrev pub rounded_time : Network → ℕ → ℕ → ℕ → List Stop → ℕ
rounded_time g k j start stops = time_of g 1 start (rounded_plan g k j start stops)

-- the same stops, and each level of z kths becomes (z + j) / k, with the same offset j throughout
pub record IsRounded (g : Network) (k j start : ℕ) (stops whole : List Stop) : Type 0 where
  pub nodes : map (λ s. s.node) whole ≡ map (λ s. s.node) stops
  pub marks : map (λ s. s.via) whole ≡ map (λ s. s.via) stops
  pub levels : levels_of g 1 start whole ≡ map (λ z. (z + j) / k) (levels_of g k start stops)

-- no stop where something is charged has a time to plug in
abbrev pub PaysNoPlugTime : Network → List Stop → Type 0
PaysNoPlugTime g stops = All (λ s. 0 < s.added → plug_time g s.node ≡ 0) stops
