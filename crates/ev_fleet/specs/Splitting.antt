-- On which pairs a node may be split.
use Rattle.std.specs.Prelude.{◌≡◌, ◌⊎◌, ℕ, ◌<◌, Option, IfSome, Some}
use Rattle.customer_sets.specs.Pairs.{allows_of}
use Rattle.branching.specs.Nodes.{node_at}
use Rattle.branching.specs.SearchTree.{IsBranchPair, IsSplitOf, SearchTree, closed_with, with_node}
use Rattle.branching.specs.declared.node.Node.{Node}
use Rattle.branching.specs.declared.node.NodeState.TheVariants.{Taken}
use Rattle.ev_fleet.specs.Bounds.{IsAtMost}
use Rattle.ev_fleet.specs.declared.pair.Choice.{Choice}

-- the node once it is taken
abbrev pub taken_of : Node → Node
taken_of node = record node { state = Taken }

-- the node of the key may be split on the places
abbrev pub CanSplit : SearchTree → ℕ → ℕ → ℕ → Type 0
CanSplit tree key i j =
    (node : Node) → node_at tree.nodes key ≡ Some node →
    IsBranchPair tree.customers (allows_of node.pairs) i j

-- the node may be split on the choice
abbrev pub IsChoice : SearchTree → ℕ → Choice → Type 0
IsChoice tree key choice = CanSplit tree key choice.i choice.j

-- the node may be split on what was chosen, if something was
abbrev pub MayChoose : SearchTree → ℕ → Option Choice → Type 0
MayChoose tree key choice = IfSome choice (IsChoice tree key)

-- the node can't be split
abbrev pub CannotSplit : SearchTree → ℕ → Type 0
CannotSplit tree key =
    (node : Node) → node_at tree.nodes key ≡ Some node → (i j : ℕ) →
    IsBranchPair tree.customers (allows_of node.pairs) i j → ⊥

-- it can't be split on the place i and one from 1 on below the end
abbrev pub CannotSplitTo : SearchTree → ℕ → ℕ → ℕ → Type 0
CannotSplitTo tree key i end =
    (node : Node) → node_at tree.nodes key ≡ Some node → (j : ℕ) → j < end →
    IsBranchPair tree.customers (allows_of node.pairs) i j → ⊥

-- the node was closed, and its leaf names the section
abbrev pub IsClosedAt : SearchTree → ℕ → ℕ → SearchTree → Type 0
IsClosedAt old key name new =
    (node : Node) → node_at old.nodes key ≡ Some node →
    new ≡ with_node old key (closed_with name node)

-- the node was split, and its children have this section and bound
pub record IsSplitAt (old : SearchTree) (key name : ℕ) (bound : Option ℕ)
    (new : SearchTree) : Type 0 where
  pub i : ℕ
  pub j : ℕ
  pub other : ℕ
  pub number : ℕ
  pub bounds : bound ≡ Some number
  pub split : IsSplitOf old key other i j name number new

-- the node was closed, where its bound is no less than the cost, or it was split
abbrev pub IsSettled : SearchTree → ℕ → ℕ → Option ℕ → Option ℕ → SearchTree → Type 0
IsSettled old key name bound cost new =
    (IsAtMost cost bound × IsClosedAt old key name new) ⊎ IsSplitAt old key name bound new
