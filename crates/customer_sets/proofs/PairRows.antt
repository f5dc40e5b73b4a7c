-- Forbidden pairs, row by row.
use Rattle.std.proofs.Common.{◌≡◌, ◌≢◌, ◌∙◌, ℕ, zero, suc, ◌+◌, ◌-◌, ◌<◌, ◌≤◌, Bool, true, false, not, ◌&&◌, ◌||◌, refl, sym, ap, List, [], ◌∷◌, length, replicate, arith, ◌⊎◌, inl, inr}
use Rattle.std.specs.Prelude.{nat_eq, nat_lt, slice_index_or}
use Rattle.std.proofs.lemmas.Bool.{cases_eq, cases_lt, eq-eqb, ne_eqb, lt-ltb, le-ltb, false≢true}
use Rattle.customer_sets.specs.CustSet.{has, IsWithin}
use Rattle.customer_sets.specs.Pairs.{allows_of, ForbiddenPairs, forbid, is_forbidden, IsPairs, require, row_of}

-- no pair is forbidden at first
none_at : (n a : ℕ) (row : List ℕ) → row ≡ [] → slice_index_or (replicate n row) a [] ≡ []
none_at zero a row none = refl
none_at (suc n) zero row none = none
none_at (suc n) (suc a) row none = none_at n a row none

none_in : (rows : List (List ℕ)) (a c : ℕ) → slice_index_or rows a [] ≡ [] → has (slice_index_or rows a []) c ≡ false
none_in rows a c none = ap (λ row. has row c) none

pub empty_pairs : (n : ℕ) (row home : List ℕ) → n ≤ 128 → row ≡ [] → home ≡ [] → IsPairs (record { customers = n; after = replicate 129 row; home = home })
empty_pairs n row home few none no_end = record {
  few = few;
  rows = refl;
  places = λ a c is. absurd (false≢true (sym (none_in (replicate 129 row) a c (none_at 129 a row none)) ∙ is));
  ends = λ c is. absurd (false≢true (sym (ap (λ set. has set c) no_end) ∙ is));
}

or_true : (b : Bool) → (b || true) ≡ true
or_true true = refl
or_true false = refl

pub empty_allows : (n : ℕ) (row home : List ℕ) → row ≡ [] → home ≡ [] → (a b : ℕ) → allows_of (record { customers = n; after = replicate 129 row; home = home }) a b ≡ true
empty_allows n row home none no_end a zero = let is : has home (a - 1) ≡ false = ap (λ set. has set (a - 1)) no_end in rw is (or_true (nat_eq a 0))
empty_allows n row home none no_end a (suc c) =
    let is : has (slice_index_or (replicate 129 row) a []) c ≡ false = none_in (replicate 129 row) a c (none_at 129 a row none) in
    rw is (or_true (nat_eq a (suc c)))

-- the places below a number that are neither i nor j
abbrev pub is_other : ℕ → ℕ → ℕ → ℕ → Bool
is_other n i j x = nat_lt x n && (not (nat_eq x i) && not (nat_eq x j))

-- what requiring the pair (i, j) leaves where it was tried for places below a number
abbrev pub require_below : ℕ → ℕ → ℕ → (ℕ → ℕ → Bool) → ℕ → ℕ → Bool
require_below n i j allows a b = allows a b && (not (nat_eq a i && is_other n i j b) && not (nat_eq b j && is_other n i j a))

unchanged : (t a b : Bool) → t ≡ (t && (not (a && false) && not (b && false)))
unchanged t a b = grind arith

pub require_none : (i j : ℕ) (allows : ℕ → ℕ → Bool) (a b : ℕ) → allows a b ≡ require_below 0 i j allows a b
require_none i j allows a b = rw (le-ltb a 0 (omega arith), le-ltb b 0 (omega arith)) (unchanged (allows a b) (nat_eq a i) (nat_eq b j))

other_skip : (n i j x : ℕ) → (n ≡ i) ⊎ (n ≡ j) → is_other n i j x ≡ is_other (n + 1) i j x
other_skip n i j x same = elim (cases_eq x n) [
  | inl here ↦ elim same [
    | inl first ↦ let is = eq-eqb x i (here ∙ first) in grind (arith, is)
    | inr second ↦ let is = eq-eqb x j (here ∙ second) in grind (arith, is)
  ]
  | inr apart ↦ elim (cases_lt x n) [
    | inl less ↦ rw (lt-ltb x n less, lt-ltb x (n + 1) (omega (arith, less))) refl
    | inr more ↦ rw (le-ltb x n (omega (arith, more)), le-ltb x (n + 1) (omega (arith, more, apart))) refl
  ]
]

other_more : (n i j x : ℕ) → n ≢ i → n ≢ j → is_other (n + 1) i j x ≡ (is_other n i j x || nat_eq x n)
other_more n i j x apart_i apart_j = elim (cases_eq x n) [
  | inl here ↦
      let not_i = ne_eqb x i (λ e. apart_i (sym here ∙ e)) in
      let not_j = ne_eqb x j (λ e. apart_j (sym here ∙ e)) in
      rw (eq-eqb x n here, not_i, not_j, lt-ltb x (n + 1) (omega (arith, here)), le-ltb x n (omega (arith, here))) refl
  | inr apart ↦ elim (cases_lt x n) [
    | inl less ↦ rw (ne_eqb x n apart, lt-ltb x n less, lt-ltb x (n + 1) (omega (arith, less))) (grind arith)
    | inr more ↦ rw (ne_eqb x n apart, le-ltb x n (omega (arith, more)), le-ltb x (n + 1) (omega (arith, more, apart))) refl
  ]
]

pub require_skip : (n i j : ℕ) (allows : ℕ → ℕ → Bool) (a b : ℕ) → (n ≡ i) ⊎ (n ≡ j) → require_below n i j allows a b ≡ require_below (n + 1) i j allows a b
require_skip n i j allows a b same =
    ap (λ o. allows a b && (not (nat_eq a i && o) && not (nat_eq b j && is_other n i j a))) (other_skip n i j b same)
    ∙ ap (λ o. allows a b && (not (nat_eq a i && is_other (n + 1) i j b) && not (nat_eq b j && o))) (other_skip n i j a same)

both_forbidden : (t a b ob oa bn an : Bool) → (((t && (not (a && ob) && not (b && oa))) && not (a && bn)) && not (an && b)) ≡ (t && (not (a && (ob || bn)) && not (b && (oa || an))))
both_forbidden t a b ob oa bn an = grind arith

pub require_more : (n i j : ℕ) (allows : ℕ → ℕ → Bool) (a b : ℕ) → n ≢ i → n ≢ j → forbid n j (forbid i n (require_below n i j allows)) a b ≡ require_below (n + 1) i j allows a b
require_more n i j allows a b apart_i apart_j =
    both_forbidden (allows a b) (nat_eq a i) (nat_eq b j) (is_other n i j b) (is_other n i j a) (nat_eq b n) (nat_eq a n)
    ∙ ap (λ o. allows a b && (not (nat_eq a i && o) && not (nat_eq b j && (is_other n i j a || nat_eq a n)))) (sym (other_more n i j b apart_i apart_j))
    ∙ ap (λ o. allows a b && (not (nat_eq a i && is_other (n + 1) i j b) && not (nat_eq b j && o))) (sym (other_more n i j a apart_i apart_j))

pub require_all : (n i j : ℕ) (allows : ℕ → ℕ → Bool) (a b : ℕ) → i ≢ j → a < n → b < n → require_below n i j allows a b ≡ require i j allows a b
require_all n i j allows a b apart low_a low_b = elim (cases_eq a i) [
  | inl at_i ↦ elim (cases_eq b j) [
    | inl at_j ↦ rw (lt-ltb a n low_a, lt-ltb b n low_b, eq-eqb a i at_i, eq-eqb b j at_j) (grind arith)
    | inr not_j ↦ elim (cases_eq a b) [
      | inl same ↦ rw (lt-ltb a n low_a, lt-ltb b n low_b, eq-eqb a i at_i, ne_eqb b j not_j, eq-eqb a b same, eq-eqb b i (sym same ∙ at_i)) (grind arith)
      | inr other ↦ rw (lt-ltb a n low_a, lt-ltb b n low_b, eq-eqb a i at_i, ne_eqb b j not_j, ne_eqb a b other, ne_eqb b i (λ e. other (at_i ∙ sym e))) (grind arith)
    ]
  ]
  | inr not_i ↦ elim (cases_eq b j) [
    | inl at_j ↦ elim (cases_eq a b) [
      | inl same ↦ rw (lt-ltb a n low_a, lt-ltb b n low_b, ne_eqb a i not_i, eq-eqb b j at_j, eq-eqb a b same, eq-eqb a j (same ∙ at_j)) (grind arith)
      | inr other ↦ rw (lt-ltb a n low_a, lt-ltb b n low_b, ne_eqb a i not_i, eq-eqb b j at_j, ne_eqb a b other, ne_eqb a j (λ e. other (e ∙ sym at_j))) (grind arith)
    ]
    | inr not_j ↦ rw (ne_eqb a i not_i, ne_eqb b j not_j) (grind arith)
  ]
]

-- one more place is tried
pub require_step : (p q : ForbiddenPairs) (n i j : ℕ) (allows : ℕ → ℕ → Bool) → ((n ≡ i) ⊎ (n ≡ j) → q ≡ p) → (n ≢ i → n ≢ j → (a b : ℕ) → allows_of q a b ≡ forbid n j (forbid i n (allows_of p)) a b)
    → ((a b : ℕ) → allows_of p a b ≡ require_below n i j allows a b) → (a b : ℕ) → allows_of q a b ≡ require_below (n + 1) i j allows a b
require_step p q n i j allows skip more before a b = elim (cases_eq n i) [
  | inl at_i ↦ ap (λ r. allows_of r a b) (skip (inl at_i)) ∙ before a b ∙ require_skip n i j allows a b (inl at_i)
  | inr not_i ↦ elim (cases_eq n j) [
    | inl at_j ↦ ap (λ r. allows_of r a b) (skip (inr at_j)) ∙ before a b ∙ require_skip n i j allows a b (inr at_j)
    | inr not_j ↦
        more not_i not_j a b
        ∙ ap (λ t. (t && not (nat_eq a i && nat_eq b n)) && not (nat_eq a n && nat_eq b j)) (before a b)
        ∙ require_more n i j allows a b not_i not_j
  ]
]

-- rows that are within others, and the pairs that they allow
forbidden_within : (p q : ForbiddenPairs) → ((a : ℕ) → a < 129 → IsWithin (row_of p a) (row_of q a)) → IsWithin p.home q.home → IsPairs p → (a b : ℕ) → is_forbidden p a b ≡ true → is_forbidden q a b ≡ true
forbidden_within p q rows ends is a zero h = ends (a - 1) h
forbidden_within p q rows ends is a (suc c) h = rows a (omega (arith, (is.places a c h).0, is.few)) c h

weaker : (e f g : Bool) → (f ≡ true → g ≡ true) → (e || not g) ≡ true → (e || not f) ≡ true
weaker true f g more h = refl
weaker false false g more h = refl
weaker false true true more h = h
weaker false true false more h = absurd (false≢true (more refl))

pub pairs_within : (p q : ForbiddenPairs) → ((a : ℕ) → a < 129 → IsWithin (row_of p a) (row_of q a)) → IsWithin p.home q.home → IsPairs p → (a b : ℕ) → allows_of q a b ≡ true → allows_of p a b ≡ true
pairs_within p q rows ends is a b = weaker (nat_eq a b) (is_forbidden p a b) (is_forbidden q a b) (forbidden_within p q rows ends is a b)

-- a pair of different places that is forbidden on one side and so on the other
back : (e f g : Bool) → e ≡ false → f ≡ true → ((e || not g) ≡ true → (e || not f) ≡ true) → g ≡ true
back e f true none is less = refl
back false true false none is less = absurd (false≢true (less refl))
back true f false none is less = absurd (false≢true (sym none))
back false false false none is less = absurd (false≢true is)

forbidden_there : (p q : ForbiddenPairs) (a b : ℕ) → (allows_of q a b ≡ true → allows_of p a b ≡ true) → a ≢ b → is_forbidden p a b ≡ true → is_forbidden q a b ≡ true
forbidden_there p q a b less apart h = back (nat_eq a b) (is_forbidden p a b) (is_forbidden q a b) (ne_eqb a b apart) h less

pub row_within : (p q : ForbiddenPairs) → ((a b : ℕ) → allows_of q a b ≡ true → allows_of p a b ≡ true) → IsPairs p → (a : ℕ) → IsWithin (row_of p a) (row_of q a)
row_within p q less is a c in_row = forbidden_there p q a (suc c) (less a (suc c)) (λ e. (is.places a c in_row).2 (omega (arith, e))) in_row

pub home_within : (p q : ForbiddenPairs) → ((a b : ℕ) → allows_of q a b ≡ true → allows_of p a b ≡ true) → IsWithin p.home q.home
home_within p q less c in_home =
    let same : suc c - 1 ≡ c = omega arith in
    let there : has q.home (suc c - 1) ≡ true = forbidden_there p q (suc c) 0 (less (suc c) 0) (λ e. omega (arith, e)) (rw same in_home) in
    rw same at there

same_at : (rows : List (List ℕ)) (a : ℕ) (d e : List ℕ) → a < length rows → slice_index_or rows a d ≡ slice_index_or rows a e
same_at [] a d e less = absurd (omega (arith, less))
same_at (row ∷ rows) zero d e less = refl
same_at (row ∷ rows) (suc a) d e less = same_at rows a d e (omega (arith, less))

-- a row that is not within the other's tells that a pair is forbidden here and not there
pub row_tells : (p q : ForbiddenPairs) (a : ℕ) (d e : List ℕ) → IsPairs p → IsPairs q → a < 129 → ((a b : ℕ) → allows_of q a b ≡ true → allows_of p a b ≡ true)
    → IsWithin (slice_index_or p.after a d) (slice_index_or q.after a e)
row_tells p q a d e is also low less =
    let own = same_at p.after a d [] (omega (arith, low, is.rows)) in
    let theirs = same_at q.after a e [] (omega (arith, low, also.rows)) in
    rw (own, theirs) (row_within p q less is a)
