-- The way from the top of a tree down to a node, as a judge goes it.
use Rattle.std.specs.Prelude.{◌≡◌, ℕ, Bool, true, false, ◌&&◌, List, [], ◌∷◌, if◌then◌else◌}
use Rattle.customer_sets.specs.Pairs.{any_pair, forbid, require}
use Rattle.ev_model.specs.Network.{Network}
use Rattle.near_tree.specs.Branches.{apart_at, at_least, at_most, Branch, together_at, whole}
use Rattle.near_tree.specs.Preorder.{at_entries, at_leaf, at_split, Node, node_of}
use Rattle.near_tree.specs.Trees.{IsCount, IsSplit}
use Rattle.near_tree.specs.declared.path.Turn.{Turn}

-- the branch in the first or the second tree below a node
abbrev pub turned : Node → Bool → Branch → Branch
turned (at_leaf s) second b = b
turned (at_split i j) true b = together_at i j b
turned (at_split i j) false b = apart_at i j b
turned (at_entries k set) true b = at_least k set b
turned (at_entries k set) false b = at_most k set b

abbrev pub turn_node : Turn → Node
turn_node t = node_of t.node.now

-- what the way says
abbrev pub branch_along : Branch → List Turn → Branch
branch_along b [] = b
branch_along b (t ∷ ts) = branch_along (turned (turn_node t) t.second b) ts

abbrev pub branch_at : List Turn → Branch
branch_at path = branch_along whole path

-- the branches of the trees beside the way that come after it, the next one first
abbrev pub open_along : List Branch → Branch → List Turn → List Branch
open_along trees b [] = trees
open_along trees b (t ∷ ts) =
    open_along (if t.second then trees else turned (turn_node t) true b ∷ trees)
    (turned (turn_node t) t.second b) ts

abbrev pub open_behind : List Turn → List Branch
open_behind path = open_along [] whole path

-- the branches of all trees to come: that at the end of the way, and those beside it
abbrev pub trees_at : List Turn → List Branch
trees_at path = branch_at path ∷ open_behind path

-- what a node that is no leaf asks for
abbrev pub IsTurnAt : Network → Branch → Node → Type 0
IsTurnAt g b (at_leaf s) = ⊥
IsTurnAt g b (at_split i j) = IsSplit g i j
IsTurnAt g b (at_entries k set) = IsCount g b k set

abbrev pub IsPathFrom : Network → Branch → List Turn → Type 0
IsPathFrom g b [] = Unit {0}
IsPathFrom g b (t ∷ ts) =
    IsTurnAt g b (turn_node t) × IsPathFrom g (turned (turn_node t) t.second b) ts

abbrev pub IsPath : Network → List Turn → Type 0
IsPath g path = IsPathFrom g whole path

-- the next tree is at the end of the new way, or no tree is left
abbrev pub GoesOn : List Turn → List Turn → Bool → Type 0
GoesOn old new true =
    (open_behind old ≡ trees_at new) × ((g : Network) → IsPath g old → IsPath g new)
GoesOn old new false = open_behind old ≡ []

-- a node on the way doesn't forbid that one place follows another
abbrev pub permits_at : Node → Bool → ℕ → ℕ → Bool
permits_at (at_leaf s) second before next = true
permits_at (at_split i j) true before next = require i j any_pair before next
permits_at (at_split i j) false before next = forbid i j any_pair before next
permits_at (at_entries k set) second before next = true

-- none does
abbrev pub permits_all : List Turn → ℕ → ℕ → Bool
permits_all [] before next = true
permits_all (t ∷ ts) before next =
    permits_at (turn_node t) t.second before next && permits_all ts before next
