-- The lines of a branching tree in preorder.
use Rattle.std.specs.Prelude.{◌≡◌, ℕ, zero, suc, ◌+◌, ◌-◌, List, [], ◌∷◌, ◌++◌}
use Rattle.fleet_model.specs.Tree.{BranchTree, leaf, split}
use Rattle.bound_certificate.specs.declared.certificate.TreeLine.{TreeLine}
use Rattle.bound_certificate.specs.declared.certificate.TreeLine.TheVariants.{Split, Leaf}

-- behind a split stand the lines of the tree where the second place may not follow the first, and then those of the tree
-- where it has to
abbrev pub lines_of : BranchTree → List TreeLine
lines_of (leaf section) = Leaf section ∷ []
lines_of (split i j apart together) = Split i j ∷ (lines_of apart ++ lines_of together)

-- the lines are those of one tree, from its first line to its last
abbrev pub IsWholeTree : List TreeLine → Type 0
IsWholeTree lines = (tree : BranchTree) × (lines ≡ lines_of tree)

-- how many trees are open behind a line: a leaf closes one, and a split opens two in place of one
abbrev pub open_behind : TreeLine → ℕ → ℕ
open_behind (Leaf section) trees = trees - 1
open_behind (Split i j) trees = trees + 1

-- so many trees are open before the lines, and behind the last of the lines, and not before, none is
abbrev pub Closes : ℕ → List TreeLine → Type 0
Closes zero [] = Unit {0}
Closes zero (line ∷ lines) = ⊥
Closes (suc trees) [] = ⊥
Closes (suc trees) (Leaf section ∷ lines) = Closes trees lines
Closes (suc trees) (Split i j ∷ lines) = Closes (suc (suc trees)) lines
