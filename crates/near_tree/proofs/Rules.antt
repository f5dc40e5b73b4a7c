-- No rule of an accepted tree is broken.
use Rattle.std.proofs.Common.{◌≡◌, ℕ, zero, suc, List, [], ◌∷◌, Option, Some, None, ap, subst, arith, inl, inr}
use Rattle.std.specs.List.{All, Contains}
use Rattle.std.specs.Prelude.{slice_get}
use Rattle.std.proofs.lemmas.Int.{ints}
use Rattle.std.proofs.lemmas.List.Elements.{All-append, All-cons, All-head, All-nil, All-tail}
use Rattle.ev_model.specs.Network.{Network}
use Rattle.near_tree.specs.Bounds.{IsAccepted, IsAcceptedAt}
use Rattle.near_tree.specs.Branches.{apart_at, at_least, at_most, Branch, together_at, whole}
use Rattle.near_tree.specs.Rules.{at_bound, at_home, at_start, at_step, IsBroken, Leaf, leaves_of, Place}
use Rattle.near_tree.specs.Sections.{LeafLabel}
use Rattle.near_tree.specs.Trees.{AtEachLeaf, entries, leaf, NearTree, split}

abbrev AcceptedLeaf : Network → Option ℕ → Leaf → Type 0
AcceptedLeaf g bound f = IsAcceptedAt g bound f.branch f.section

each_leaf : (g : Network) (bound : Option ℕ) (b : Branch) (t : NearTree) → AtEachLeaf (IsAcceptedAt g bound) b t → All (AcceptedLeaf g bound) (leaves_of b t)
each_leaf g bound b (leaf s) accepted = All-cons (AcceptedLeaf g bound) (record { branch = b; section = s }) [] accepted (All-nil (AcceptedLeaf g bound))
each_leaf g bound b (split i j apart together) accepted =
    All-append (AcceptedLeaf g bound) (leaves_of (apart_at i j b) apart) (leaves_of (together_at i j b) together)
    (each_leaf g bound (apart_at i j b) apart accepted.0) (each_leaf g bound (together_at i j b) together accepted.1)
each_leaf g bound b (entries k set few many) accepted =
    All-append (AcceptedLeaf g bound) (leaves_of (at_most k set b) few) (leaves_of (at_least k set b) many)
    (each_leaf g bound (at_most k set b) few accepted.0) (each_leaf g bound (at_least k set b) many accepted.1)

given : Leaf → Option Leaf → Leaf
given d None = d
given d (Some x) = x

numbered : (P : Leaf → Type 0) (xs : List Leaf) (n : ℕ) (x : Leaf) → All P xs → slice_get xs n ≡ Some x → P x
unfolding given
numbered P [] n x all is = absurd (grind (arith, is))
numbered P (y ∷ ys) zero x all is = subst P (ap (given x) is) (All-head P y ys all)
numbered P (y ∷ ys) (suc n) x all is = numbered P ys n x (All-tail P y ys all) is

label_given : LeafLabel → Option LeafLabel → LeafLabel
label_given d None = d
label_given d (Some x) = x

-- the label with a number is in the list
inside : (xs : List LeafLabel) (n : ℕ) (x : LeafLabel) → slice_get xs n ≡ Some x → Contains xs x
unfolding label_given
inside [] n x is = absurd (grind (arith, is))
inside (y ∷ ys) zero x is = (0, omega arith, ap (label_given x) is)
inside (y ∷ ys) (suc n) x is = let rest = inside ys n x is in (suc rest.0, omega (arith, rest.1), rest.2)

module _ (g : Network) (bound : Option ℕ) (t : NearTree) (accepted : IsAccepted g bound t) where
  at_leaf : (n : ℕ) (f : Leaf) → slice_get (leaves_of whole t) n ≡ Some f → IsAcceptedAt g bound f.branch f.section
  at_leaf n f is = numbered (AcceptedLeaf g bound) (leaves_of whole t) n f (each_leaf g bound whole t accepted) is

  pub not_broken : (at : Place) → IsBroken g bound t at → ⊥
  not_broken (at_start n) broken = broken.2 (at_leaf n broken.0 broken.1).closed.begins
  not_broken (at_step n k x) broken =
      let closed = (at_leaf n broken.0 broken.1).closed in
      let l = broken.2.0 in
      let there = inside broken.0.section.labels k l broken.2.1 in
      let y = broken.2.2.0 in
      elim broken.2.2.2 [
        | inl customer ↦ customer.1 (closed.customer l y x there broken.2.2.1 customer.0)
        | inr station ↦ station.2 (closed.station l y x station.0 there broken.2.2.1 station.1)
      ]
  not_broken (at_home n k) broken =
      let closed = (at_leaf n broken.0 broken.1).closed in
      let free = closed.home broken.2.0 broken.2.2.0 (inside broken.0.section.labels k broken.2.0 broken.2.1) broken.2.2.1 broken.2.2.2 in
      let earns = broken.2.2.3 in
      omega (arith, ints, free, earns)
  not_broken (at_bound n) broken = broken.2 (at_leaf n broken.0 broken.1).bounded
