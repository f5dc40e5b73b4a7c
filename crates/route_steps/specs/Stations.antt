-- The nodes that have a curve.
use Rattle.std.specs.Prelude.{ℕ, List, filter, is_some}
use Rattle.std.specs.List.{range_with_len}
use Rattle.ev_model.specs.Network.{Network, curve_at, node_count}

-- the nodes that have a curve, in rising order
unfoldable pub stations : Network → List ℕ
stations g = filter (λ node. is_some (curve_at g node)) (range_with_len 0 (node_count g))
