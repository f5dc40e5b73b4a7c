-- The entries of a basis name its columns, and no two of them are the same.
use Rattle.std.proofs.Common.{◌≡◌, ◌≢◌, ◌∙◌, ℕ, zero, suc, ◌+◌, ◌-◌, ◌<◌, inl, inr, true, false, ◌||◌, arith, refl, sym, ap, List, [], ◌∷◌, ◌++◌, length, get_or, map, nat_lt, lt-ltb, le-ltb}
use Rattle.std.specs.List.{list_any, range_with_len}
use Rattle.std.proofs.Math.Seq.{get_or-append_right}
use Rattle.std.proofs.lemmas.Bool.{cases_lt, ne_eqb}
use Rattle.std.proofs.lemmas.List.{get_or_append_left}
use Rattle.std.proofs.lemmas.List.FromFn.{length-map-range_with_len}
use Rattle.fleet_model.specs.Equations.{Column, column_at, helper, helpers, route}
use Rattle.bound_certificate.specs.Meaning.{entry_column}
use Rattle.certificate_parts.specs.Ranges.{AreDifferent, EntryFits, same_entry}
use Rattle.bound_certificate.specs.Entries.{entry_of}

-- ---- the columns that entries name
pub many_helpers : (n : ℕ) → length (helpers n) ≡ n
many_helpers n = length-map-range_with_len helper 0 n

helper_from : (n a j : ℕ) → j < n → column_at (map helper (range_with_len a n)) j ≡ helper (a + j)
helper_from zero a j less = absurd (omega (arith, less))
helper_from (suc n) a zero less = ap helper (let e : a ≡ a + 0 = omega arith in e)
helper_from (suc n) a (suc j) less = helper_from n (a + 1) j (omega (arith, less)) ∙ ap helper (let e : (a + 1) + j ≡ a + suc j = omega arith in e)

helper_at : (n j : ℕ) → j < n → column_at (helpers n) j ≡ helper j
helper_at n j less = helper_from n 0 j less ∙ ap helper (let e : 0 + j ≡ j = omega arith in e)

entry_is : (n : ℕ) (routes : List Column) (j : ℕ) → entry_column routes (entry_of n j) ≡ column_at (helpers n ++ routes) j
entry_is n routes j = elim (cases_lt j n) [
  | inl less ↦
      let test : nat_lt j n ≡ true = lt-ltb j n less in
      let there : column_at (helpers n ++ routes) j ≡ helper j = get_or_append_left (helpers n) routes (route [] 0) j (let e = many_helpers n in omega (arith, e, less)) ∙ helper_at n j less in
      rw test (sym there)
  | inr more ↦
      let test : nat_lt j n ≡ false = le-ltb j n more in
      let there : column_at (helpers n ++ routes) j ≡ column_at routes (j - length (helpers n)) = get_or-append_right (helpers n) routes j (route [] 0) (let e = many_helpers n in omega (arith, e, more)) in
      rw test (sym (there ∙ ap (λ k. column_at routes (j - k)) (many_helpers n)))
]

pub entries_are : (n : ℕ) (routes : List Column) (basis : List ℕ) → map (entry_column routes) (map (entry_of n) basis) ≡ map (column_at (helpers n ++ routes)) basis
entries_are n routes [] = refl
entries_are n routes (j ∷ basis) = λ i. entry_is n routes j i ∷ entries_are n routes basis i

-- ---- numbers in range, that differ
same_apart : (n j x : ℕ) → j ≢ x → same_entry (entry_of n j) (entry_of n x) ≡ false
same_apart n j x apart = elim (cases_lt j n) [
  | inl j_less ↦
      let j_test : nat_lt j n ≡ true = lt-ltb j n j_less in
      elim (cases_lt x n) [
        | inl x_less ↦ rw (j_test, lt-ltb x n x_less) (ne_eqb j x apart)
        | inr x_more ↦ rw (j_test, le-ltb x n x_more) refl
      ]
  | inr j_more ↦
      let j_test : nat_lt j n ≡ false = le-ltb j n j_more in
      elim (cases_lt x n) [
        | inl x_less ↦ rw (j_test, lt-ltb x n x_less) refl
        | inr x_more ↦ rw (j_test, le-ltb x n x_more) (ne_eqb (j - n) (x - n) (λ e. apart (omega (arith, e, j_more, x_more))))
      ]
]

none_same : (n j : ℕ) (xs : List ℕ) → ((k : ℕ) → k < length xs → j ≢ get_or xs k 0) → list_any (same_entry (entry_of n j)) (map (entry_of n) xs) ≡ false
none_same n j [] apart = refl
none_same n j (x ∷ xs) apart =
    ap (λ t. t || list_any (same_entry (entry_of n j)) (map (entry_of n) xs)) (same_apart n j x (apart 0 (omega arith))) ∙ none_same n j xs (λ k less. apart (suc k) (omega (arith, less)))

pub different : (n : ℕ) (basis : List ℕ) → ((i j : ℕ) → i < j → j < length basis → get_or basis i 0 ≢ get_or basis j 0) → AreDifferent (map (entry_of n) basis)
different n [] apart = tt
different n (j ∷ js) apart = (
  none_same n j js (λ k less. apart 0 (suc k) (omega arith) (omega (arith, less))),
  different n js (λ i k before less. apart (suc i) (suc k) (omega (arith, before)) (omega (arith, less))),
)

pub entry_fits : (n m j : ℕ) → j < n + m → EntryFits n m (entry_of n j)
entry_fits n m j less = elim (cases_lt j n) [
  | inl below ↦ rw (lt-ltb j n below) below
  | inr above ↦ rw (le-ltb j n above) (omega (arith, less, above))
]
