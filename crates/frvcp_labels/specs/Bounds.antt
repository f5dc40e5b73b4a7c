-- What ways over stations cost at least, and their sum along a route.
use Rattle.std.specs.Prelude.{◌≡◌, ℕ, ◌+◌, ◌-◌, ◌^◌, ◌<◌, List, [], ◌∷◌, get_or, length, map, min, slice_index}
use Rattle.std.specs.Global.{Vec}
use Rattle.ev_model.specs.Network.{Network, node_count}
use Rattle.frvcp_labels.specs.Rest.{IsDirect, IsSteady}

abbrev pub lists_in : List (Vec ℕ) → List (List ℕ)
lists_in layers = map (λ layer. layer.items) layers

-- the entry of each node is no greater than the cost of the arc to `to`, nor than that of going on over a station
pub record IsLayer (g : Network) (rate to : ℕ) (layer : List ℕ) : Type 0 where
  pub count : length layer ≡ node_count g
  pub direct : IsDirect g rate layer 0 to 0
  pub steady : IsSteady g rate layer 0

-- a layer for each node
pub record AreWayCosts (g : Network) (rate : ℕ) (layers : List (List ℕ)) : Type 0 where
  pub count : length layers ≡ node_count g
  pub layers_are : (to : ℕ) → to < node_count g → IsLayer g rate to (get_or layers to [])

-- the cost of the way from one node to another
abbrev pub way_cost : List (List ℕ) → ℕ → ℕ → ℕ
way_cost layers from to = slice_index (get_or layers to []) from

-- the sum over the ways from a node to the first of the nodes, from there to the next, and so on
abbrev pub way_sum : List (List ℕ) → ℕ → List ℕ → ℕ
way_sum layers from [] = 0
way_sum layers from (to ∷ nodes) = way_cost layers from to + way_sum layers to nodes

-- the number, or the greatest one of 64 bits where that is less
abbrev pub capped : ℕ → ℕ
capped n = min n (2 ^ 64 - 1)
