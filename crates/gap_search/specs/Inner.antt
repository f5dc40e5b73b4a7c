-- The nodes of a route between its visits to the depot.
use Rattle.std.specs.Prelude.{◌≢◌, ℕ, ◌<◌, List, [], ◌∷◌}
use Rattle.ev_model.specs.Network.{Network, node_count}

-- known nodes behind a node, none of them the depot, or the same as the one before it, and the last
-- one isn't the depot either
abbrev pub AreInner : Network → ℕ → List ℕ → Type 0
AreInner g before [] = 0 ≢ before
AreInner g before (node ∷ nodes) =
    (node < node_count g) × (node ≢ 0) × (node ≢ before) × AreInner g node nodes
