-- No rule of the labels is broken at a leaf whose labels are closed.
use Rattle.std.proofs.Common.{◌≡◌, ℕ, zero, suc, List, [], ◌∷◌, Option, Some, None, ap, arith, inl, inr}
use Rattle.std.specs.List.{Contains}
use Rattle.std.specs.Prelude.{slice_get}
use Rattle.std.proofs.lemmas.Int.{ints}
use Rattle.ev_model.specs.Network.{Network}
use Rattle.near_tree.specs.Judging.{IsFaultAt}
use Rattle.near_tree.specs.Rules.{at_bound, at_home, at_start, at_step, Leaf, Place}
use Rattle.near_tree.specs.Sections.{LeafLabel}
use Rattle.near_tree.specs.Verdicts.{IsLeafClosed}

label_given : LeafLabel → Option LeafLabel → LeafLabel
label_given d None = d
label_given d (Some x) = x

-- the label with a number is in the list
inside : (xs : List LeafLabel) (n : ℕ) (x : LeafLabel) → slice_get xs n ≡ Some x → Contains xs x
unfolding label_given
inside [] n x is = absurd (grind (arith, is))
inside (y ∷ ys) zero x is = (0, omega arith, ap (label_given x) is)
inside (y ∷ ys) (suc n) x is = let rest = inside ys n x is in (suc rest.0, omega (arith, rest.1), rest.2)

pub no_fault : (g : Network) (f : Leaf) → IsLeafClosed g f → (at : Place) → IsFaultAt g f at → ⊥
no_fault g f closed (at_start n) broken = broken closed.begins
no_fault g f closed (at_step n k x) broken =
    let there = inside f.section.labels k broken.0 broken.1 in
    let y = broken.2.0 in
    elim broken.2.2 [
      | inl customer ↦ customer.1 (closed.customer broken.0 y x there broken.2.1 customer.0)
      | inr station ↦ station.2 (closed.station broken.0 y x station.0 there broken.2.1 station.1)
    ]
no_fault g f closed (at_home n k) broken =
    let free = closed.home broken.0 broken.2.0 (inside f.section.labels k broken.0 broken.1) broken.2.1 broken.2.2 in
    let earns = broken.2.3 in
    omega (arith, ints, free, earns)
no_fault g f closed (at_bound n) broken = broken
