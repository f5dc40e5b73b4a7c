-- The numbers of a range that pass a test, as a set.
use Rattle.std.proofs.Common.{◌≡◌, ◌∙◌, ℕ, zero, suc, ◌+◌, ◌<◌, ◌≤◌, Bool, true, false, ◌&&◌, [], ◌∷◌, ◌++◌, length, refl, sym, ap, arith, inl, inr}
use Rattle.std.specs.List.{All, filter, range_with_len}
use Rattle.std.specs.List.Sorted.{IsStrictlyIncreasing}
use Rattle.std.proofs.lemmas.Bool.{cases_Bool, cases_eq, cases_lt, eq-eqb, ne_eqb, false≢true, lt-ltb, le-ltb}
use Rattle.std.proofs.lemmas.List.Elements.{All-from_get_or, All-filter}
use Rattle.std.proofs.lemmas.List.FromFn.{get_or-range_with_len, length-range_with_len}
use Rattle.std.proofs.lemmas.List.Kept.{IsStrictlyIncreasing-filter}
use Rattle.customer_sets.specs.CustSet.{has, IsWithin, with_customer}
use Rattle.customer_sets.specs.Kept.{has_kept, kept, none_past, same_kept}
use Rattle.customer_sets.specs.SetBelow.{IsSetBelow}

range_rises : (n a : ℕ) → IsStrictlyIncreasing (range_with_len a n)
range_rises n a k less =
    let size = length-range_with_len a n in
    let here = get_or-range_with_len a n k 0 (omega (arith, less, size)) in
    let next = get_or-range_with_len a n (k + 1) 0 (omega (arith, less, size)) in
    omega (arith, here, next)

range_below : (n a : ℕ) → All (λ c. c < a + n) (range_with_len a n)
range_below n a = All-from_get_or (λ (c : ℕ). c < a + n) (range_with_len a n) 0 (λ i less.
    let inside : i < n = omega (arith, less, length-range_with_len a n) in
    let here = get_or-range_with_len a n i 0 inside in
    omega (arith, here, inside))

pub kept_set : (test : ℕ → Bool) (n : ℕ) → IsSetBelow n (kept test 0 n)
kept_set test n =
    let same : 0 + n ≡ n = omega arith in
    let below : All (λ (c : ℕ). c < n) (range_with_len 0 n) = rw same at (range_below n 0) in record {
      rising = IsStrictlyIncreasing-filter test (range_with_len 0 n) (range_rises n 0);
      small = All-filter test (λ (c : ℕ). c < n) (range_with_len 0 n) below;
    }

-- a customer comes before all later ones
before_all : (test : ℕ → Bool) (n a c : ℕ) → c < a → with_customer c (kept test a n) ≡ c ∷ kept test a n
before_all test zero a c less = refl
before_all test (suc n) a c less =
    let rest = before_all test n (a + 1) c (omega (arith, less)) in
    elim (cases_Bool (test a)) [
      | inl passes ↦ rw (passes, lt-ltb c a less) refl
      | inr fails ↦ rw fails rest
    ]

-- a test that one more passes
pub with_kept : (test more : ℕ → Bool) (n a c : ℕ) → more c ≡ true → ((x : ℕ) → (x ≡ c → ⊥) → more x ≡ test x) → a ≤ c → c < a + n
    → kept more a n ≡ with_customer c (kept test a n)
with_kept test more zero a c here others low high = absurd (omega (arith, low, high))
with_kept test more (suc n) a c here others low high = elim (cases_eq a c) [
  | inl same ↦
      let set : more a ≡ true = ap more same ∙ here in
      let rest : kept more (a + 1) n ≡ kept test (a + 1) n = same_kept more test n (a + 1) (λ x past high. others x (λ is. omega (arith, is, same, past))) in
      let first : with_customer c (kept test (a + 1) n) ≡ c ∷ kept test (a + 1) n = before_all test n (a + 1) c (omega (arith, same)) in
      elim (cases_Bool (test a)) [
        | inl passes ↦ rw (set, passes, le-ltb c a (omega (arith, same)), eq-eqb c a (sym same)) (ap (λ xs. a ∷ xs) rest)
        | inr fails ↦ rw (set, fails) (ap (λ xs. a ∷ xs) rest ∙ ap (λ x. x ∷ kept test (a + 1) n) same ∙ sym first)
      ]
  | inr other ↦
      let same : more a ≡ test a = others a other in
      let rest = with_kept test more n (a + 1) c here others (omega (arith, low, other)) (omega (arith, high)) in
      elim (cases_Bool (test a)) [
        | inl passes ↦ rw (same, passes, le-ltb c a low, ne_eqb c a (λ is. other (sym is))) (ap (λ xs. a ∷ xs) rest)
        | inr fails ↦ rw (same, fails) rest
      ]
]

-- two tests in a row
pub kept_both : (test other : ℕ → Bool) (n a : ℕ) → filter other (kept test a n) ≡ kept (λ c. test c && other c) a n
kept_both test other zero a = refl
kept_both test other (suc n) a =
    let rest = kept_both test other n (a + 1) in
    elim (cases_Bool (test a)) [
      | inl passes ↦ elim (cases_Bool (other a)) [
        | inl too ↦ rw (passes, too, rest) refl
        | inr fails ↦ rw (passes, fails, rest) refl
      ]
      | inr fails ↦ rw (fails, rest) refl
    ]

-- nothing passes
pub none_kept : (test : ℕ → Bool) (n a : ℕ) → ((c : ℕ) → a ≤ c → c < a + n → test c ≡ false) → kept test a n ≡ []
none_kept test zero a none = refl
none_kept test (suc n) a none =
    let here = none a (omega arith) (omega arith) in
    rw here (none_kept test n (a + 1) (λ c low high. none c (omega (arith, low)) (omega (arith, high))))

pub kept_none : (test : ℕ → Bool) (n c : ℕ) → kept test 0 n ≡ [] → c < n → test c ≡ false
kept_none test n c none low = sym (has_kept test n 0 c (omega arith) (omega (arith, low))) ∙ ap (λ set. has set c) none

-- one set within another
pub kept_within : (test other : ℕ → Bool) (n : ℕ) → ((c : ℕ) → c < n → test c ≡ true → other c ≡ true) → IsWithin (kept test 0 n) (kept other 0 n)
kept_within test other n each c in_it = elim (cases_lt c n) [
  | inl small ↦
      let passes = sym (has_kept test n 0 c (omega arith) (omega (arith, small))) ∙ in_it in
      has_kept other n 0 c (omega arith) (omega (arith, small)) ∙ each c small passes
  | inr past ↦ absurd (false≢true (sym (none_past test n 0 c (omega (arith, past))) ∙ in_it))
]

pub within_kept : (test other : ℕ → Bool) (n c : ℕ) → IsWithin (kept test 0 n) (kept other 0 n) → c < n → test c ≡ true → other c ≡ true
within_kept test other n c within small passes =
    sym (has_kept other n 0 c (omega arith) (omega (arith, small)))
    ∙ within c (has_kept test n 0 c (omega arith) (omega (arith, small)) ∙ passes)

-- a range in two parts, and one that is moved
pub kept_append : (test : ℕ → Bool) (m n a : ℕ) → kept test a (m + n) ≡ kept test a m ++ kept test (a + m) n
kept_append test zero n a =
    let first : 0 + n ≡ n = omega arith in
    let second : a + 0 ≡ a = omega arith in
    rw (first, second) refl
kept_append test (suc m) n a =
    let first : suc m + n ≡ suc (m + n) = omega arith in
    let second : a + 1 + m ≡ a + suc m = omega arith in
    let rest : kept test (a + 1) (m + n) ≡ kept test (a + 1) m ++ kept test (a + suc m) n = rw second at (kept_append test m n (a + 1)) in
    elim (cases_Bool (test a)) [
      | inl passes ↦ rw (first, passes) (ap (λ xs. a ∷ xs) rest)
      | inr fails ↦ rw (first, fails) rest
    ]

pub kept_moved : (test other : ℕ → Bool) (b n a : ℕ) → ((x : ℕ) → a ≤ x → x < a + n → test (b + x) ≡ other x) → length (kept test (b + a) n) ≡ length (kept other a n)
kept_moved test other b zero a same = refl
kept_moved test other b (suc n) a same =
    let next : b + a + 1 ≡ b + (a + 1) = omega arith in
    let rest : length (kept test (b + a + 1) n) ≡ length (kept other (a + 1) n) = rw next (kept_moved test other b n (a + 1) (λ x low high. same x (omega (arith, low)) (omega (arith, high)))) in
    let here = same a (omega arith) (omega arith) in
    elim (cases_Bool (other a)) [
      | inl passes ↦ rw (here, passes) (omega (arith, rest))
      | inr fails ↦ rw (here, fails) rest
    ]

pub kept_few : (test : ℕ → Bool) (n a : ℕ) → length (kept test a n) ≤ n
kept_few test zero a = omega arith
kept_few test (suc n) a =
    let rest = kept_few test n (a + 1) in
    elim (cases_Bool (test a)) [
      | inl passes ↦ rw passes (omega (arith, rest))
      | inr fails ↦ rw fails (omega (arith, rest))
    ]
