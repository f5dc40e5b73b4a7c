-- The branching tree of a search: its leaves name nodes by their keys.
use Rattle.std.specs.Prelude.{◌≡◌, ◌≢◌, ℕ, ◌+◌, ◌<◌, ◌≤◌, Bool, true, false, cond, nat_eq, List, set, Option, Some, None, is_some}
use Rattle.customer_sets.specs.Pairs.{ForbiddenPairs, allows_of, any_pair, forbid, require}
use Rattle.fleet_model.specs.Tree.{BranchTree, leaf, split}
use Rattle.branching.specs.Nodes.{HasNode, node_at}
use Rattle.branching.specs.declared.node.Node.{Node}
use Rattle.branching.specs.declared.node.NodeState.TheVariants.{Open, Closed}

pub record SearchTree : Type 0 where
  -- among how many customers there are pairs
  pub customers : ℕ
  -- by key, and nothing at a key that no node has
  pub nodes : List (Option Node)
  -- a leaf names its node by its key
  pub tree : BranchTree

-- a split on the places i and j of n customers is possible under these pairs: j may follow i, and to
-- require it would forbid a further pair
pub record IsBranchPair (n : ℕ) (allows : ℕ → ℕ → Bool) (i j : ℕ) : Type 0 where
  pub first : (0 < i) × (i ≤ n)
  pub second : (0 < j) × (j ≤ n)
  pub apart : i ≢ j
  pub allowed : allows i j ≡ true
  pub narrows : (a b : ℕ) × (a ≤ n) × (b ≤ n) × (allows a b ≡ true)
      × (require i j allows a b ≡ false)

-- the pairs allow the same among the places of n customers, and nothing less elsewhere
pub record HasPairs (n : ℕ) (allows : ℕ → ℕ → Bool) (p : ForbiddenPairs) : Type 0 where
  pub customers : p.customers ≡ n
  pub same : (a b : ℕ) → a ≤ n → b ≤ n → allows_of p a b ≡ allows a b
  pub more : (a b : ℕ) → allows a b ≡ true → allows_of p a b ≡ true

-- under what is allowed at the root of the tree, each split is possible where it stands, and each
-- leaf names a node with the pairs that are forbidden on the way to it
abbrev pub IsTreeUnder : ℕ → List (Option Node) → (ℕ → ℕ → Bool) → BranchTree → Type 0
IsTreeUnder n nodes allows (leaf key) = HasNode nodes key (λ node. HasPairs n allows node.pairs)
IsTreeUnder n nodes allows (split i j apart together) =
    IsBranchPair n allows i j
    × (IsTreeUnder n nodes (forbid i j allows) apart
    × IsTreeUnder n nodes (require i j allows) together)

-- how many leaves name the key
abbrev pub leaves_with : ℕ → BranchTree → ℕ
leaves_with key (leaf k) = cond (nat_eq k key) 1 0
leaves_with key (split i j apart together) = leaves_with key apart + leaves_with key together

-- what holds of each: no pair is forbidden at its root, and each node is that of one leaf
pub record IsSearchTree (t : SearchTree) : Type 0 where
  pub few : t.customers ≤ 128
  pub under : IsTreeUnder t.customers t.nodes any_pair t.tree
  pub leaves : (key : ℕ) → leaves_with key t.tree ≡ cond (is_some (node_at t.nodes key)) 1 0

-- the section that a node names, by number
abbrev pub section_in : Option Node → ℕ
section_in None = 0
section_in (Some node) = node.section

-- the tree whose leaves name sections in place of nodes
abbrev pub sections_named : List (Option Node) → BranchTree → BranchTree
sections_named nodes (leaf key) = leaf (section_in (node_at nodes key))
sections_named nodes (split i j apart together) =
    split i j (sections_named nodes apart) (sections_named nodes together)

-- one open node without a forbidden pair
pub record IsRoot (customers : ℕ) (t : SearchTree) : Type 0 where
  pub pairs : ForbiddenPairs
  pub among : pairs.customers ≡ customers
  pub any : (a b : ℕ) → allows_of pairs a b ≡ true
  pub many : t.customers ≡ customers
  pub node : node_at t.nodes 0
      ≡ Some (record { state = Open; pairs = pairs; section = 0; bound = 0 })
  pub alone : (key : ℕ) → key ≢ 0 → node_at t.nodes key ≡ None
  pub tree : t.tree ≡ leaf 0

-- the tree with another node of that key
abbrev pub with_node : SearchTree → ℕ → Node → SearchTree
with_node t key node = record t { nodes = set t.nodes key (Some node) }

-- the node once it is closed
abbrev pub closed_with : ℕ → Node → Node
closed_with section node = record node { state = Closed; section = section }

-- in place of each leaf that names the key a split, whose first child names the key too, and whose
-- second names another
abbrev pub grown : ℕ → ℕ → ℕ → ℕ → BranchTree → BranchTree
grown key i j other (leaf k) = cond (nat_eq k key) (split i j (leaf key) (leaf other)) (leaf k)
grown key i j other (split a b apart together) =
    split a b (grown key i j other apart) (grown key i j other together)

-- The children of a node that is split are open. Their section and bound are the given ones. In the
-- first j may not follow i, in the second it has to.
pub record AreChildren (node : Node) (i j section bound : ℕ) (apart together : Node) : Type 0 where
  pub waiting : (apart.state ≡ Open) × (together.state ≡ Open)
  pub sections : (apart.section ≡ section) × (together.section ≡ section)
  pub bounds : (apart.bound ≡ bound) × (together.bound ≡ bound)
  pub customers : (apart.pairs.customers ≡ node.pairs.customers)
      × (together.pairs.customers ≡ node.pairs.customers)
  pub forbids : (a b : ℕ) → allows_of apart.pairs a b ≡ forbid i j (allows_of node.pairs) a b
  pub demands : (a b : ℕ) → a ≤ node.pairs.customers → b ≤ node.pairs.customers →
      allows_of together.pairs a b ≡ require i j (allows_of node.pairs) a b

-- the first child takes the key of the node that is split, and the second one that no node has
pub record IsSplitOf (old : SearchTree) (key other i j section bound : ℕ)
    (new : SearchTree) : Type 0 where
  pub node : Node
  pub here : node_at old.nodes key ≡ Some node
  pub free : node_at old.nodes other ≡ None
  pub apart : Node
  pub together : Node
  pub children : AreChildren node i j section bound apart together
  pub first : node_at new.nodes key ≡ Some apart
  pub second : node_at new.nodes other ≡ Some together
  pub others : (k : ℕ) → k ≢ key → k ≢ other → node_at new.nodes k ≡ node_at old.nodes k
  pub customers : new.customers ≡ old.customers
  pub tree : new.tree ≡ grown key i j other old.tree
