-- The nodes that have a curve.
use Rattle.std.specs.Prelude.{ℕ, zero, suc, List, [], ◌∷◌, ◌++◌, is_some, if◌then◌else◌}
use Rattle.ev_model.specs.Network.{Network, curve_at, node_count}

-- those of the nodes below a number, in rising order
abbrev pub stations_below : Network → ℕ → List ℕ
stations_below g zero = []
stations_below g (suc n) =
    if is_some (curve_at g n) then stations_below g n ++ n ∷ [] else stations_below g n

-- those of all nodes
unfoldable pub stations : Network → List ℕ
stations g = stations_below g (node_count g)
