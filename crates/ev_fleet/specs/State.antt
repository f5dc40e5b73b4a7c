-- The state of a search between two nodes: its tree, whose leaves name nodes by their keys, and the sections that were found.
use Rattle.std.specs.Prelude.{◌≡◌, ℕ, ◌≤◌, List, [], Option, Some, None, cond, length, nat_eq, nat_lt, if◌then◌else◌}
use Rattle.std.specs.List.{All, Contains}
use Rattle.customer_sets.specs.Pairs.{any_pair}
use Rattle.ev_model.specs.Network.{Network}
use Rattle.fleet_model.specs.ClosedList.{IsClosed}
use Rattle.fleet_model.specs.Strong.{IsStrong}
use Rattle.bound_certificate.specs.Meaning.{priced_section}
use Rattle.bound_certificate.specs.Ranges.{SectionFits, customer_count}
use Rattle.bound_certificate.specs.declared.certificate.Section.{Section}
use Rattle.branching.specs.Nodes.{node_at, HasNode}
use Rattle.branching.specs.SearchTree.{SearchTree, section_in}
use Rattle.branching.specs.declared.node.Node.{Node}
use Rattle.branching.specs.declared.node.NodeState.{NodeState}
use Rattle.branching.specs.declared.node.NodeState.TheVariants.{Open, Taken, Closed}
use Rattle.ev_fleet.specs.Bounds.{HasBound, IsAtMost, IsNotAbove}
use Rattle.ev_fleet.specs.Searched.{EachNode, SearchedTree, branches_of, fork, own_of, times_at, tip}
use Rattle.ev_fleet.specs.Standing.{HasOwnPairs, IsReached, on_the_way}

-- what was found of each section
pub record IsFound (g : Network) (s : Section) : Type 0 where
  pub closed : IsClosed g (priced_section s)
  pub strong : IsStrong g (priced_section s)
  pub fits : SectionFits g s

-- of the numbered sections it has the greatest bound, which is this one
pub record IsGreatestAt (sections : List Section) (numbers : List ℕ) (name : ℕ)
    (bound : Option ℕ) : Type 0 where
  pub among : Contains numbers name
  pub own : HasBound sections name bound
  pub greatest : All (IsNotAbove sections bound) numbers

-- an open node has no section of its own
pub record IsOpenWell (sections : List Section) (floor : ℕ) (above : List ℕ) (own : Option ℕ)
    (name bound : ℕ) : Type 0 where
  pub bare : own ≡ None
  pub names : IsGreatestAt sections above name (Some bound)
  pub high : floor ≤ bound

-- what a closed node bounds costs no less than the plan that is held
pub record IsClosedWell (sections : List Section) (cost : Option ℕ) (floor : ℕ) (numbers : List ℕ)
    (name : ℕ) : Type 0 where
  pub bound : Option ℕ
  pub names : IsGreatestAt sections numbers name bound
  pub costly : IsAtMost cost bound
  pub high : IsAtMost (Some floor) bound

abbrev pub IsStateWell : List Section → Option ℕ → ℕ → List ℕ → Option ℕ → ℕ → ℕ → NodeState →
    Type 0
IsStateWell sections cost floor above own name bound Open =
    IsOpenWell sections floor above own name bound
IsStateWell sections cost floor above own name bound Taken = ⊥
IsStateWell sections cost floor above own name bound Closed =
    IsClosedWell sections cost floor (on_the_way own above) name

abbrev pub IsNodeWell : List Section → Option ℕ → ℕ → List ℕ → Option ℕ → Node → Type 0
IsNodeWell sections cost floor above own node =
    IsStateWell sections cost floor above own node.section node.bound node.state

abbrev pub IsLeafWell : List (Option Node) → List Section → Option ℕ → ℕ → List ℕ → SearchedTree → Type 0
IsLeafWell nodes sections cost floor above (tip own key) =
    HasNode nodes key (IsNodeWell sections cost floor above own)
IsLeafWell nodes sections cost floor above (fork own i j apart together) = Unit {0}

-- Where the sections stand in the tree of keys. No bound of a leaf is below the floor, and no bound of a split node that has a
-- child with a section is above it.
pub record IsSearchAt (n : ℕ) (tree : SearchTree) (sections : List Section) (cost : Option ℕ)
    (floor : ℕ) (t : SearchedTree) : Type 0 where
  pub keys : branches_of t ≡ tree.tree
  pub root : own_of t ≡ Some 0
  pub once : (number : ℕ) → times_at number t ≡ cond (nat_lt number (length sections)) 1 0
  pub pairs : EachNode (λ allows above s. HasOwnPairs n sections allows (own_of s)) any_pair [] t
  pub reached : EachNode (λ allows above s. IsReached sections (Some floor) above (own_of s))
      any_pair [] t
  pub leaves : EachNode (λ allows above s. IsLeafWell tree.nodes sections cost floor above s)
      any_pair [] t

-- a search with a plan of this cost, or none
pub record IsSearch (g : Network) (tree : SearchTree) (sections : List Section)
    (cost : Option ℕ) : Type 0 where
  pub customers : tree.customers ≡ customer_count g
  pub found : All (IsFound g) sections
  pub floor : ℕ
  pub standing : SearchedTree
  pub is : IsSearchAt (customer_count g) tree sections cost floor standing

-- which of two sections has the greater bound, and that bound: the one with the number, or the one of that name with a bound
-- that is a number
abbrev pub greater_of : ℕ → Option ℕ → ℕ → ℕ → ℕ × Option ℕ
greater_of number None name bound = (number, None)
greater_of number (Some own) name bound =
    if nat_lt bound own then (number, Some own) else (name, Some bound)

-- the tree of keys with a tree in place of the leaf with the key
abbrev pub placed : ℕ → SearchedTree → SearchedTree → SearchedTree
placed key new (tip own k) = cond (nat_eq k key) new (tip own k)
placed key new (fork own i j apart together) =
    fork own i j (placed key new apart) (placed key new together)

-- the tree whose leaves name the sections of their nodes
abbrev pub named : List (Option Node) → SearchedTree → SearchedTree
named nodes (tip own key) = tip own (section_in (node_at nodes key))
named nodes (fork own i j apart together) = fork own i j (named nodes apart) (named nodes together)
