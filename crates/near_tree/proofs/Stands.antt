-- One last stands for another.
use Rattle.std.proofs.Common.{ℕ, zero, suc, List, [], ◌∷◌, true, ◌&&◌, refl, arith, inl, inr}
use Rattle.std.specs.Int.Signed.{lt_z}
use Rattle.std.specs.Prelude.{ℤ, pos, negsuc, ◌≤ℤ◌, if◌then◌else◌}
use Rattle.std.proofs.lemmas.Bool.{cases_Bool, lt-ltb}
use Rattle.std.proofs.lemmas.Int.{ints}
use Rattle.ev_model.specs.Network.{Network}
use Rattle.near_tree.specs.Branches.{Branch, Counted}
use Rattle.near_tree.specs.Entries.{is_in}
use Rattle.near_tree.specs.Follows.{entries_earned, entry_earned, MayFollow, StandsFor}
use Rattle.near_tree.specs.Sections.{after, anybody, Last, NearSection}

pub stands_self : (g : Network) (b : Branch) (s : NearSection) (l : Last) → StandsFor g b s l l
stands_self g b s l = λ j low next. (next, omega (arith, ints))

pub stands_further : (g : Network) (b : Branch) (s : NearSection) (k l m : Last) → StandsFor g b s k l → StandsFor g b s l m → StandsFor g b s k m
stands_further g b s k l m first second = λ j low next.
    let near = second j low next in
    let far = first j low near.0 in
    (far.0, omega (arith, ints, near.1, far.1))

-- a price, and none, are no more than the price where that is above 0 and none where it isn't
none_less : (price : ℤ) → pos 0 ≤ℤ (if true && lt_z (pos 0) price then price else pos 0)
none_less (pos zero) = omega (arith, ints)
none_less (pos (suc p)) = rw (lt-ltb 0 (suc p) (omega arith)) (omega (arith, ints))
none_less (negsuc p) = omega (arith, ints)

price_less : (price : ℤ) → price ≤ℤ (if true && lt_z (pos 0) price then price else pos 0)
price_less (pos zero) = omega (arith, ints)
price_less (pos (suc p)) = rw (lt-ltb 0 (suc p) (omega arith)) (omega (arith, ints))
price_less (negsuc p) = omega (arith, ints)

-- whatever is earned, anybody earns no less
entry_most : (set : List ℕ) (price : ℤ) (l : Last) (j : ℕ) → entry_earned set price l j ≤ℤ entry_earned set price anybody j
entry_most set price anybody j = omega (arith, ints)
entry_most set price (after i) j = elim (cases_Bool (is_in set j)) [
  | inl is ↦ elim (cases_Bool (is_in set i)) [
    | inl from ↦ rw (is, from) (none_less price)
    | inr from ↦ rw (is, from) (price_less price)
  ]
  | inr other ↦ rw other (omega (arith, ints))
]

earned_most : (cs : List Counted) (prices : List ℤ) (l : Last) (j : ℕ) → entries_earned cs prices l j ≤ℤ entries_earned cs prices anybody j
earned_most [] prices l j = omega (arith, ints)
earned_most (c ∷ cs) [] l j = omega (arith, ints)
earned_most (c ∷ cs) (price ∷ prices) l j = omega (arith, ints, entry_most c.set price l j, earned_most cs prices l j)

pub anybody_stands : (g : Network) (b : Branch) (s : NearSection) (l : Last) → StandsFor g b s anybody l
anybody_stands g b s l = λ j low next. (tt, earned_most b.counted s.entry_prices l j)

pub nobody_stands : (g : Network) (b : Branch) (s : NearSection) (l : Last) → MayFollow b l 0 → StandsFor g b s (after 0) l → ⊥
nobody_stands g b s l home stands = (stands 0 (omega arith) home).0.1 refl refl
