-- Each node is that of one leaf, also where a leaf is split.
use Rattle.std.proofs.Common.{◌≡◌, ℕ, ◌+◌, Bool, true, false, inl, inr, refl, arith}
use Rattle.std.specs.Prelude.{cond, nat_eq}
use Rattle.std.proofs.lemmas.Bool.{cases_Bool, eqb-true}
use Rattle.fleet_model.specs.Tree.{BranchTree, leaf, split}
use Rattle.branching.specs.SearchTree.{grown, leaves_with}

added : (a b c d : ℕ) (t : Bool) → a + cond t c 0 + (b + cond t d 0) ≡ a + b + cond t (c + d) 0
added a b c d true = omega arith
added a b c d false = omega arith

pub leaves-grown : (key i j other x : ℕ) (t : BranchTree) → leaves_with x (grown key i j other t) ≡ leaves_with x t + cond (nat_eq other x) (leaves_with key t) 0
leaves-grown key i j other x (leaf k) = elim (cases_Bool (nat_eq k key)) [
  | inl hit ↦ rw (hit, eqb-true k key hit) refl
  | inr miss ↦ elim (cases_Bool (nat_eq other x)) [
    | inl same ↦ rw (miss, same) (omega arith)
    | inr apart ↦ rw (miss, apart) (omega arith)
  ]
]
leaves-grown key i j other x (split a b apart together) =
    rw (leaves-grown key i j other x apart, leaves-grown key i j other x together)
    (added (leaves_with x apart) (leaves_with x together) (leaves_with key apart) (leaves_with key together) (nat_eq other x))
