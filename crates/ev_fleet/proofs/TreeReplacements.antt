-- A tree in place of a leaf: what becomes of the tree alone, of its root, and of how often a section stands.
use Rattle.std.proofs.Common.{◌≡◌, ℕ, ◌+◌, ◌*◌, Bool, true, List, ◌∷◌, Some, None, inl, inr, refl, sym, ap, arith}
use Rattle.std.specs.Prelude.{nat_eq}
use Rattle.std.proofs.lemmas.Bool.{cases_Bool, eqb-true}
use Rattle.customer_sets.specs.Pairs.{forbid, require}
use Rattle.fleet_model.specs.Tree.{leaf}
use Rattle.branching.specs.SearchTree.{grown, leaves_with}
use Rattle.ev_fleet.specs.Searched.{EachNode, SearchedTree, branches_of, fork, own_of, times_at, tip}
use Rattle.ev_fleet.specs.State.{placed}

pub branches-kept : (key number : ℕ) (t : SearchedTree) → branches_of (placed key (tip (Some number) key) t) ≡ branches_of t
branches-kept key number (tip own k) = elim (cases_Bool (nat_eq k key)) [
  | inl hit ↦ rw hit (ap leaf (sym (eqb-true k key hit)))
  | inr miss ↦ rw miss refl
]
branches-kept key number (fork own i j apart together) =
    rw (branches-kept key number apart, branches-kept key number together) refl

pub branches-grown : (key number i j other : ℕ) (t : SearchedTree) → branches_of (placed key (fork number i j (tip None key) (tip None other)) t) ≡ grown key i j other (branches_of t)
branches-grown key number i j other (tip own k) = elim (cases_Bool (nat_eq k key)) [ inl hit ↦ rw hit refl | inr miss ↦ rw miss refl ]
branches-grown key number i j other (fork own a b apart together) =
    rw (branches-grown key number i j other apart, branches-grown key number i j other together) refl

-- a leaf with the key has no section of its own
abbrev pub IsBare : ℕ → SearchedTree → Type 0
IsBare key (tip own k) = nat_eq k key ≡ true → own ≡ None
IsBare key (fork own i j apart together) = Unit {0}

pub times-placed : (key number : ℕ) (new : SearchedTree) (allows : ℕ → ℕ → Bool) (above : List ℕ) (t : SearchedTree)
    → EachNode (λ a b s. IsBare key s) allows above t
    → times_at number (placed key new t) ≡ times_at number t + leaves_with key (branches_of t) * times_at number new
times-placed key number new allows above (tip own k) bare = elim (cases_Bool (nat_eq k key)) [
  | inl hit ↦
      let none : own ≡ None = bare hit in
      rw (hit, none) (omega arith)
  | inr miss ↦ rw miss (omega arith)
]
times-placed key number new allows above (fork own i j apart together) bare =
    let first = times-placed key number new (forbid i j allows) (own ∷ above) apart bare.1.0 in
    let second = times-placed key number new (require i j allows) (own ∷ above) together bare.1.1 in
    omega (arith, first, second)

pub own-placed : (key number : ℕ) (new : SearchedTree) (allows : ℕ → ℕ → Bool) (above : List ℕ) (t : SearchedTree)
    → EachNode (λ a b s. IsBare key s) allows above t → own_of t ≡ Some number → own_of (placed key new t) ≡ Some number
own-placed key number new allows above (tip own k) bare is = elim (cases_Bool (nat_eq k key)) [
  | inl hit ↦
      let none : own ≡ None = bare hit in
      absurd (grind (arith, none, is))
  | inr miss ↦ rw miss is
]
own-placed key number new allows above (fork own i j apart together) bare is = is
