-- The sets whose entries are counted on the way to a node, as a judge keeps them.
use Rattle.std.specs.Prelude.{ℕ, ◌+◌, ◌<◌, ◌≤◌, Bool, true, false, List, [], ◌∷◌, Option, None, Some, if◌then◌else◌}
use Rattle.near_tree.specs.Branches.{count_of, Counted, counted_anew, is_same}
use Rattle.near_tree.specs.Preorder.{at_entries, at_leaf, at_split, Node}
use Rattle.near_tree.specs.declared.counted.CountedSet.{CountedSet}

abbrev pub counted_as : CountedSet → Counted
counted_as c = record { set = c.set; least = c.least; most = c.most }

-- at most so many entries, or more
abbrev pub narrow_to : Counted → ℕ → Bool → Counted
narrow_to c k true = record { set = c.set; least = k + 1; most = c.most }
narrow_to c k false = record { set = c.set; least = c.least; most = k }

-- what is counted in the first or the second tree below a node
abbrev pub counted_by : Node → Bool → List Counted → List Counted
counted_by (at_leaf s) second cs = cs
counted_by (at_split i j) second cs = cs
counted_by (at_entries k set) true cs =
    counted_anew cs (record { set = set; least = k + 1; most = (count_of cs set).most })
counted_by (at_entries k set) false cs =
    counted_anew cs (record { set = set; least = (count_of cs set).least; most = k })

-- where a set is counted, counting on from a number
abbrev pub find_same : ℕ → List CountedSet → List ℕ → Option ℕ
find_same n [] set = None
find_same n (c ∷ cs) set = if is_same c.set set then Some n else find_same (n + 1) cs set

-- an instance has fewer customers
abbrev pub HasSmallCount : Node → Type 0
HasSmallCount (at_leaf s) = Unit {0}
HasSmallCount (at_split i j) = Unit {0}
HasSmallCount (at_entries k set) = k < 448

pub record IsSmallCount (c : CountedSet) : Type 0 where
  pub least : c.least ≤ 448
  pub most : c.most ≤ 448
