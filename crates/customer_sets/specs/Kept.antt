-- Which numbers of a range pass a test.
use Rattle.std.specs.Prelude.{◌≡◌, ℕ, zero, suc, ◌+◌, ◌<◌, ◌≤◌, Bool, true, false, List, ◌∷◌, nat_eq, refl}
use Rattle.std.specs.List.{filter, range_with_len}
use Rattle.std.proofs.Common.{◌∙◌, ap, arith, inl, inr, sym}
use Rattle.std.proofs.lemmas.Bool.{cases_Bool, cases_eq, eq-eqb, ne_eqb}
use Rattle.customer_sets.specs.CustSet.{has}

-- of n numbers from a on those that pass
abbrev pub kept : (ℕ → Bool) → ℕ → ℕ → List ℕ
kept test a n = filter test (range_with_len a n)

-- none is below the range
pub none_below : (test : ℕ → Bool) (n a c : ℕ) → c < a → has (kept test a n) c ≡ false
none_below test zero a c less = refl
none_below test (suc n) a c less =
    let apart : nat_eq a c ≡ false = ne_eqb a c (λ same. omega (arith, same, less)) in
    let rest = none_below test n (a + 1) c (omega (arith, less)) in
    elim (cases_Bool (test a)) [
      | inl passes ↦ rw (passes, apart) rest
      | inr fails ↦ rw fails rest
    ]

-- nor past its end
pub none_past : (test : ℕ → Bool) (n a c : ℕ) → a + n ≤ c → has (kept test a n) c ≡ false
none_past test zero a c past = refl
none_past test (suc n) a c past =
    let apart : nat_eq a c ≡ false = ne_eqb a c (λ same. omega (arith, same, past)) in
    let rest = none_past test n (a + 1) c (omega (arith, past)) in
    elim (cases_Bool (test a)) [
      | inl passes ↦ rw (passes, apart) rest
      | inr fails ↦ rw fails rest
    ]

-- within it the test decides
pub has_kept : (test : ℕ → Bool) (n a c : ℕ) → a ≤ c → c < a + n →
    has (kept test a n) c ≡ test c
has_kept test zero a c low high = absurd (omega (arith, low, high))
has_kept test (suc n) a c low high = elim (cases_eq a c) [
  | inl same ↦
      let here : nat_eq a c ≡ true = eq-eqb a c same in
      let none = none_below test n (a + 1) c (omega (arith, same)) in
      let at : test a ≡ test c = ap test same in
      elim (cases_Bool (test a)) [
        | inl passes ↦ rw (passes, here) (sym passes ∙ at)
        | inr fails ↦ rw fails (none ∙ sym fails ∙ at)
      ]
  | inr other ↦
      let apart : nat_eq a c ≡ false = ne_eqb a c other in
      let rest = has_kept test n (a + 1) c (omega (arith, low, other)) (omega (arith, high)) in
      elim (cases_Bool (test a)) [
        | inl passes ↦ rw (passes, apart) rest
        | inr fails ↦ rw fails rest
      ]
]

-- tests that agree on the range keep the same
pub same_kept : (test other : ℕ → Bool) (n a : ℕ) →
    ((c : ℕ) → a ≤ c → c < a + n → test c ≡ other c) → kept test a n ≡ kept other a n
same_kept test other zero a same = refl
same_kept test other (suc n) a same =
    let here = same a (omega arith) (omega arith) in
    let rest = same_kept test other n (a + 1) (λ c low high. same c (omega (arith, low)) (omega (arith, high))) in
    elim (cases_Bool (other a)) [
      | inl passes ↦ rw (here, passes) (ap (λ xs. a ∷ xs) rest)
      | inr fails ↦ rw (here, fails) rest
    ]
