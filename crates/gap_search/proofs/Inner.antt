-- Routes over inner nodes.
use Rattle.std.proofs.Common.{ℕ, ◌<◌, List, [], ◌∷◌, ◌++◌, refl}
use Rattle.std.specs.Prelude.{◌≢◌}
use Rattle.std.specs.List.{All}
use Rattle.std.proofs.lemmas.List.Elements.{All-cons, All-nil}
use Rattle.ev_model.specs.Network.{Network, node_count}
use Rattle.ev_model.specs.Route.{IsRoute, Moves}
use Rattle.gap_search.specs.Inner.{AreInner}

-- all of them are known, and so is the depot behind them
known_behind : (g : Network) (before : ℕ) (nodes : List ℕ) → 0 < node_count g → AreInner g before nodes → All (λ node. node < node_count g) (nodes ++ 0 ∷ [])
known_behind g before [] some are = All-cons (λ (node : ℕ). node < node_count g) 0 [] some (All-nil (λ (node : ℕ). node < node_count g))
known_behind g before (node ∷ nodes) some are = All-cons (λ (node : ℕ). node < node_count g) node (nodes ++ 0 ∷ []) are.0 (known_behind g node nodes some are.3)

no_depot : (g : Network) (before : ℕ) (nodes : List ℕ) → AreInner g before nodes → All (λ node. node ≢ 0) nodes
no_depot g before [] are = All-nil (λ (node : ℕ). node ≢ 0)
no_depot g before (node ∷ nodes) are = All-cons (λ (node : ℕ). node ≢ 0) node nodes are.1 (no_depot g node nodes are.3)

moves : (g : Network) (before : ℕ) (nodes : List ℕ) → AreInner g before nodes → Moves (before ∷ nodes ++ 0 ∷ [])
moves g before [] are = (are, tt)
moves g before (node ∷ nodes) are = (are.2, moves g node nodes are.3)

-- the way from the depot over them to the depot is a route
pub is_route : (g : Network) (nodes : List ℕ) → 0 < node_count g → AreInner g 0 nodes → IsRoute g (0 ∷ nodes ++ 0 ∷ [])
is_route g nodes some are = (
  nodes,
  record {
    ends = refl;
    known = All-cons (λ (node : ℕ). node < node_count g) 0 (nodes ++ 0 ∷ []) some (known_behind g 0 nodes some are);
    no_depot = no_depot g 0 nodes are;
    moves = moves g 0 nodes are;
  },
)
