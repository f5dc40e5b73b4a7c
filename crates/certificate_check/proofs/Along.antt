-- The leaves of a tree, by its lines.
use Rattle.std.proofs.Common.{◌≡◌, ◌∙◌, ℕ, zero, suc, Bool, List, [], ◌∷◌, ◌++◌, Option, refl, sym, ap, subst, append_assoc, append-nil}
use Rattle.std.proofs.lemmas.Option.{none-some, same_Some}
use Rattle.customer_sets.specs.Pairs.{any_pair, forbid, require}
use Rattle.fleet_model.specs.Section.{Section}
use Rattle.fleet_model.specs.Tree.{BranchTree, leaf, LeavesAreUnder, split}
use Rattle.bound_certificate.specs.Meaning.{IsTreeOf}
use Rattle.bound_certificate.specs.Trees.{lines_of}
use Rattle.bound_certificate.specs.declared.certificate.TreeLine.{TreeLine}
use Rattle.certificate_check.specs.Firsts.{AllHold, LeafHolds, leaves_along}
use Rattle.certificate_check.specs.Leaves.{leaves_of, TreeLeaf}

-- the lines of a tree, and then those of the other open trees
pub along : (t : BranchTree) (allows : ℕ → ℕ → Bool) (open_trees : List (ℕ → ℕ → Bool)) (rest : List TreeLine) →
    leaves_along (allows ∷ open_trees) (lines_of t ++ rest) ≡ leaves_of allows t ++ leaves_along open_trees rest
along (leaf n) allows open_trees rest = refl
along (split i j apart together) allows open_trees rest =
    ap (λ ls. leaves_along (forbid i j allows ∷ require i j allows ∷ open_trees) ls) (append_assoc (lines_of apart) (lines_of together) rest)
    ∙ along apart (forbid i j allows) (require i j allows ∷ open_trees) (lines_of together ++ rest)
    ∙ ap (λ ls. leaves_of (forbid i j allows) apart ++ ls) (along together (require i j allows) open_trees rest)
    ∙ sym (append_assoc (leaves_of (forbid i j allows) apart) (leaves_of (require i j allows) together) (leaves_along open_trees rest))

pub leaves_are : (lines : List TreeLine) (t : BranchTree) → IsTreeOf lines t → leaves_along (any_pair ∷ []) lines ≡ leaves_of any_pair t
leaves_are lines t is =
    ap (leaves_along (any_pair ∷ [])) (is ∙ sym (append-nil (lines_of t)))
    ∙ along t any_pair [] []
    ∙ append-nil (leaves_of any_pair t)

-- what holds of two lists one behind another
module _ {X : Type 0} (holds : X → Type 0) where
  pub hold_front : (xs ys : List X) → AllHold holds (xs ++ ys) → AllHold holds xs
  hold_front [] ys all n x at = absurd (none-some x at)
  hold_front (y ∷ xs) ys all zero x at = all 0 x at
  hold_front (y ∷ xs) ys all (suc n) x at = hold_front xs ys (λ m z there. all (suc m) z there) n x at

  pub hold_back : (xs ys : List X) → AllHold holds (xs ++ ys) → AllHold holds ys
  hold_back [] ys all = all
  hold_back (y ∷ xs) ys all = hold_back xs ys (λ m z there. all (suc m) z there)

  pub hold_both : (xs ys : List X) → AllHold holds xs → AllHold holds ys → AllHold holds (xs ++ ys)
  hold_both [] ys all rest n x at = rest n x at
  hold_both (y ∷ xs) ys all rest zero x at = all 0 x at
  hold_both (y ∷ xs) ys all rest (suc n) x at = hold_both xs ys (λ m z there. all (suc m) z there) rest n x at

  pub hold_one : (x : X) → holds x → AllHold holds (x ∷ [])
  hold_one x is zero y at = subst holds (same_Some x y at) is
  hold_one x is (suc n) y at = absurd (none-some y at)

-- the leaves of a tree hold exactly where the tree's leaves are under its pairs
pub under_where_leaves_hold : (sections : List Section) (bound : Option ℕ) (t : BranchTree) (allows : ℕ → ℕ → Bool) →
    AllHold (LeafHolds sections bound) (leaves_of allows t) → LeavesAreUnder sections bound allows t
under_where_leaves_hold sections bound (leaf n) allows all = all 0 (record { section = n; allows = allows }) refl
under_where_leaves_hold sections bound (split i j apart together) allows all = (
  under_where_leaves_hold sections bound apart (forbid i j allows)
      (hold_front (LeafHolds sections bound) (leaves_of (forbid i j allows) apart) (leaves_of (require i j allows) together) all),
  under_where_leaves_hold sections bound together (require i j allows)
      (hold_back (LeafHolds sections bound) (leaves_of (forbid i j allows) apart) (leaves_of (require i j allows) together) all),
)

pub leaves_hold_where_under : (sections : List Section) (bound : Option ℕ) (t : BranchTree) (allows : ℕ → ℕ → Bool) →
    LeavesAreUnder sections bound allows t → AllHold (LeafHolds sections bound) (leaves_of allows t)
leaves_hold_where_under sections bound (leaf n) allows under =
    let l : TreeLeaf = record { section = n; allows = allows } in
    hold_one (LeafHolds sections bound) l under
leaves_hold_where_under sections bound (split i j apart together) allows under =
    hold_both (LeafHolds sections bound) (leaves_of (forbid i j allows) apart) (leaves_of (require i j allows) together)
    (leaves_hold_where_under sections bound apart (forbid i j allows) under.0)
    (leaves_hold_where_under sections bound together (require i j allows) under.1)
