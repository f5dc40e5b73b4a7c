-- What is counted on the way to each tree that is still to be read.
use Rattle.std.specs.Prelude.{◌≡◌, ◌+◌, ◌≤◌, Bool, true, false, List, [], ◌∷◌, ◌++◌, map, if◌then◌else◌}
use Rattle.near_tree.specs.Branches.{Counted, count_of}
use Rattle.near_tree.specs.declared.proof.TreeNode.{TreeNode}
use Rattle.near_tree.specs.declared.proof.TreeNode.TheVariants as node
use Rattle.tree_text.specs.Written.{narrowed}
use Rattle.tree_text.specs.declared.ways.CountedSet.{CountedSet}

-- counted sets as they are kept
abbrev pub as_counted : CountedSet → Counted
as_counted c = record { set = c.set; least = c.least; most = c.most }

abbrev pub counted_in : List CountedSet → List Counted
counted_in cs = map as_counted cs

-- what is counted on the way to each tree that is still to be read, the next one first: several
-- trees in a row may have one way, which goes with the last of them
abbrev pub opened : List Bool → List (List CountedSet) → List (List Counted)
opened [] ways = []
opened (last ∷ lasts) [] = []
opened (last ∷ lasts) (way ∷ ways) =
    counted_in way ∷ opened lasts (if last then ways else way ∷ ways)

-- each tree that is still to be read has a way
abbrev pub AreOpen : List Bool → List (List CountedSet) → Type 0
AreOpen [] ways = Unit {0}
AreOpen (last ∷ lasts) [] = ⊥
AreOpen (last ∷ lasts) (way ∷ ways) = AreOpen lasts (if last then ways else way ∷ ways)

-- what is left of the ways behind a tree
abbrev pub left_of : Bool → List (List CountedSet) → List CountedSet → List (List CountedSet)
left_of last rest way = if last then rest else rest ++ way ∷ []

-- a count is that of some customers
abbrev pub HasSmallCount : TreeNode → Type 0
HasSmallCount (node.Split before after) = Unit {0}
HasSmallCount (node.Entries most set) = most ≤ 448
HasSmallCount (node.Leaf s) = Unit {0}

-- what is to be read below a node in front of what was, with the next one last: `lasts` says of
-- each tree whether no later one has its way
abbrev pub GoesBelow : Bool → TreeNode → List (List CountedSet) → List CountedSet → List Bool
    → List Bool → List (List CountedSet) → Type 0
GoesBelow last (node.Split before after) rest way lasts more ways =
    (more ≡ (lasts ++ last ∷ []) ++ false ∷ []) × (ways ≡ rest ++ way ∷ [])
GoesBelow last (node.Leaf s) rest way lasts more ways =
    (more ≡ lasts) × (ways ≡ left_of last rest way)
GoesBelow last (node.Entries most set) rest way lasts more ways =
    (few : List CountedSet) × (many : List CountedSet)
    × (counted_in few
    ≡ narrowed (counted_in way) set (count_of (counted_in way) set).least most)
    × (counted_in many
    ≡ narrowed (counted_in way) set (most + 1) (count_of (counted_in way) set).most)
    × (more ≡ (lasts ++ true ∷ []) ++ true ∷ [])
    × (ways ≡ (left_of last rest way ++ many ∷ []) ++ few ∷ [])
