-- The first customer with a property.
use Rattle.std.proofs.Common.{◌≡◌, ℕ, zero, suc, ◌+◌, ◌<◌, ◌≤◌, Bool, true, false, None, Some, filter, sym, subst, arith, inl, inr}
use Rattle.std.specs.List.{find, range_with_len}
use Rattle.std.proofs.lemmas.Bool.{cases_Bool, cases_eq}
use Rattle.std.proofs.lemmas.Option.{same_Some}
use Rattle.ev_model.specs.Network.{Network, is_customer, node_count}
use Rattle.instance_reader.specs.Instance.{customer_nodes}
use Rattle.plan_check.specs.FleetRules.{IsCustomer}

-- of n numbers from a on, the first that passes both tests
record IsFound (p q : ℕ → Bool) (a n found : ℕ) : Type 0 where
  low : a ≤ found
  high : found < a + n
  kept : q found ≡ true
  passes : p found ≡ true
  first : (other : ℕ) → a ≤ other → other < found → q other ≡ true → p other ≡ false

IsFound-skip : (p q : ℕ → Bool) (a n found : ℕ) → (q a ≡ true → p a ≡ false) → IsFound p q (a + 1) n found → IsFound p q a (suc n) found
IsFound-skip p q a n found not_here rest = record {
  low = omega (arith, rest.low);
  high = omega (arith, rest.high);
  kept = rest.kept;
  passes = rest.passes;
  first = λ other low below kept. elim (cases_eq a other) [
    | inl same ↦ subst (λ x. p x ≡ false) same (not_here (subst (λ x. q x ≡ true) (sym same) kept))
    | inr differ ↦ rest.first other (omega (arith, differ, low)) below kept
  ];
}

found_in : (p q : ℕ → Bool) (a n found : ℕ) → find p (filter q (range_with_len a n)) ≡ Some found → IsFound p q a n found
found_in p q a zero found is = absurd (cc)
found_in p q a (suc n) found is = elim (cases_Bool (q a)) [
  | inl kept ↦
      let here = rw kept at is in
      elim (cases_Bool (p a)) [
        | inl passes ↦
            let found_here = rw passes at here in
            let same : a ≡ found = same_Some a found found_here in
            subst (λ x. IsFound p q a (suc n) x) same (record {
              low = omega arith;
              high = omega arith;
              kept = kept;
              passes = passes;
              first = λ other low below kept. absurd (omega (arith, low, below));
            })
        | inr fails ↦
            let later = rw fails at here in
            IsFound-skip p q a n found (λ kept. fails) (found_in p q (a + 1) n found later)
      ]
  | inr out ↦
      let later = rw out at is in
      IsFound-skip p q a n found (λ kept. absurd (cc)) (found_in p q (a + 1) n found later)
]

none_in : (p q : ℕ → Bool) (a n : ℕ) → find p (filter q (range_with_len a n)) ≡ None → (x : ℕ) → a ≤ x → x < a + n → q x ≡ true → p x ≡ false
none_in p q a zero is x low high kept = absurd (omega (arith, low, high))
none_in p q a (suc n) is x low high kept = elim (cases_Bool (q a)) [
  | inl kept_here ↦
      let here = rw kept_here at is in
      elim (cases_Bool (p a)) [
        | inl passes ↦ let found : Some a ≡ None = rw passes at here in absurd (cc)
        | inr fails ↦
            let later = rw fails at here in
            elim (cases_eq a x) [
              | inl same ↦ subst (λ x. p x ≡ false) same fails
              | inr differ ↦ none_in p q (a + 1) n later x (omega (arith, differ, low)) (omega (arith, high)) kept
            ]
      ]
  | inr out ↦
      let later = rw out at is in
      elim (cases_eq a x) [
        | inl same ↦ let out_too : q x ≡ false = subst (λ x. q x ≡ false) same out in absurd (cc)
        | inr differ ↦ none_in p q (a + 1) n later x (omega (arith, differ, low)) (omega (arith, high)) kept
      ]
]

-- the first customer that passes the test
pub record IsFirstCustomer (g : Network) (p : ℕ → Bool) (found : ℕ) : Type 0 where
  pub customer : IsCustomer g found
  pub passes : p found ≡ true
  pub first : (other : ℕ) → IsCustomer g other → other < found → p other ≡ false

pub first_customer : (g : Network) (p : ℕ → Bool) (found : ℕ) → find p (customer_nodes g) ≡ Some found → IsFirstCustomer g p found
first_customer g p found is =
    let f = found_in p (is_customer g) 0 (node_count g) found is in
    record {
      customer = (omega (arith, f.high), f.kept);
      passes = f.passes;
      first = λ other customer below. f.first other (omega arith) below customer.1;
    }

pub no_customer : (g : Network) (p : ℕ → Bool) → find p (customer_nodes g) ≡ None → (x : ℕ) → IsCustomer g x → p x ≡ false
no_customer g p is x customer = none_in p (is_customer g) 0 (node_count g) is x (omega arith) (omega (arith, customer.0)) customer.1
