-- The nodes of a search by key, and which of them comes next (best-first search in branch and bound:
-- Land, Doig 1960).
use Rattle.std.specs.Prelude.{◌≡◌, ◌⊎◌, ℕ, ◌<◌, ◌≤◌, Bool, true, false, List, Option, Some, None, slice_index_or}
use Rattle.branching.specs.declared.node.Node.{Node}
use Rattle.branching.specs.declared.node.NodeState.{NodeState}
use Rattle.branching.specs.declared.node.NodeState.TheVariants.{Open, Taken, Closed}

-- the node of a key, if there is one
abbrev pub node_at : List (Option Node) → ℕ → Option Node
node_at nodes key = slice_index_or nodes key None

-- there is a node of that key, and it is such a one
pub record HasNode (nodes : List (Option Node)) (key : ℕ) (Is : Node → Type 0) : Type 0 where
  pub node : Node
  pub here : node_at nodes key ≡ Some node
  pub is : Is node

abbrev pub awaits : NodeState → Bool
awaits Open = true
awaits Taken = false
awaits Closed = false

abbrev pub lives : NodeState → Bool
lives Open = true
lives Taken = true
lives Closed = false

-- the node is open
abbrev pub IsOpen : Node → Type 0
IsOpen node = awaits node.state ≡ true

-- the node was taken, and is neither split nor closed yet
abbrev pub IsTaken : Node → Type 0
IsTaken node = node.state ≡ Taken

-- the node is open or taken
abbrev pub IsLive : Node → Type 0
IsLive node = lives node.state ≡ true

abbrev pub NoneIsOpen : List (Option Node) → Type 0
NoneIsOpen nodes = (key : ℕ) → HasNode nodes key IsOpen → ⊥

abbrev pub NoneIsLive : List (Option Node) → Type 0
NoneIsLive nodes = (key : ℕ) → HasNode nodes key IsLive → ⊥

-- the node is open, and no other open one has a smaller bound, or an equal bound and a smaller key
pub record IsNext (nodes : List (Option Node)) (key : ℕ) (node : Node) : Type 0 where
  pub here : node_at nodes key ≡ Some node
  pub waits : IsOpen node
  pub least : (other : ℕ) (o : Node) → node_at nodes other ≡ Some o → IsOpen o →
      (node.bound < o.bound) ⊎ ((node.bound ≡ o.bound) × (key ≤ other))

-- the least bound of the nodes that are open or taken
pub record IsLeastBound (nodes : List (Option Node)) (bound : ℕ) : Type 0 where
  pub some : (key : ℕ) × HasNode nodes key (λ node. IsLive node × (node.bound ≡ bound))
  pub least : (key : ℕ) (node : Node) → node_at nodes key ≡ Some node → IsLive node →
      bound ≤ node.bound
