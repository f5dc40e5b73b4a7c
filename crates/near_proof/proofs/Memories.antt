-- Who is remembered, by whom who was remembered before.
use Rattle.std.proofs.Common.{◌≡◌, ℕ, Bool, true, List, [], ◌∷◌, sym, subst, inl, inr}
use Rattle.std.specs.List.{filter}
use Rattle.std.specs.Prelude.{nat_eq}
use Rattle.std.proofs.lemmas.Bool.{cases_Bool, eqb-true, or_cases, or_left, or_right, false≢true}
use Rattle.customer_sets.specs.CustSet.{has, IsWithin}
use Rattle.fleet_model.proofs.Sets.{within_more}
use Rattle.near_proof.specs.Terms.{near_set, remembered}

-- a member of a part of a list
pub filtered_has : (test : ℕ → Bool) (xs : List ℕ) (c : ℕ) → has (filter test xs) c ≡ true → (has xs c ≡ true) × (test c ≡ true)
filtered_has test [] c is = absurd (false≢true is)
filtered_has test (x ∷ xs) c is = elim (cases_Bool (test x)) [
  | inl passes ↦ elim (or_cases (nat_eq x c) (has (filter test xs) c) (rw passes at is)) [
    | inl same ↦ (or_left (nat_eq x c) (has xs c) same, subst (λ y. test y ≡ true) (eqb-true x c same) passes)
    | inr later ↦ let rest = filtered_has test xs c later in (or_right (nat_eq x c) (has xs c) rest.0, rest.1)
  ]
  | inr fails ↦ let rest = filtered_has test xs c (rw fails at is) in (or_right (nat_eq x c) (has xs c) rest.0, rest.1)
]

pub has_filtered : (test : ℕ → Bool) (xs : List ℕ) (c : ℕ) → has xs c ≡ true → test c ≡ true → has (filter test xs) c ≡ true
has_filtered test [] c is tested = absurd (false≢true is)
has_filtered test (x ∷ xs) c is tested = elim (or_cases (nat_eq x c) (has xs c) is) [
  | inl same ↦
      let here : test x ≡ true = subst (λ y. test y ≡ true) (sym (eqb-true x c same)) tested in
      rw here (or_left (nat_eq x c) (has (filter test xs) c) same)
  | inr later ↦
      let rest = has_filtered test xs c later tested in
      elim (cases_Bool (test x)) [
        | inl here ↦ rw here (or_right (nat_eq x c) (has (filter test xs) c) rest)
        | inr fails ↦ rw fails rest
      ]
]

-- who remembers fewer goes on to remember fewer
pub remembers_fewer : (sets : List (List ℕ)) (small large : List ℕ) (c : ℕ) → IsWithin small large → IsWithin (remembered sets small c) (remembered sets large c)
remembers_fewer sets small large c within =
    let test = has (near_set sets c) in
    within_more c (filter test small) (filter test large) (λ x is.
    let parts = filtered_has test small x is in
    has_filtered test large x (within x parts.0) parts.1)
