-- Networks that agree have the same customers, with the same numbers.
use Rattle.std.proofs.Common.{◌≡◌, ◌∙◌, ℕ, zero, suc, ◌<◌, ◌≤◌, Bool, true, false, List, [], ◌∷◌, filter, map, refl, sym, ap, arith, inl, inr}
use Rattle.std.specs.List.{range_with_len}
use Rattle.std.specs.Prelude.{nat_eq}
use Rattle.std.proofs.lemmas.Bool.{cases_Bool, false≢true, ne_eqb}
use Rattle.std.proofs.lemmas.List.Elements.{All-head, All-tail}
use Rattle.ev_model.specs.Fleet.{customers_of, times_in}
use Rattle.ev_model.specs.Network.{is_customer, Network, node_count}
use Rattle.ev_model.specs.declared.Stop.{Stop}
use Rattle.fleet_model.specs.Places.{customer_number, numbers_of}
use Rattle.fleet_model.proofs.Weighed.{AreBelow}
use Rattle.plan_check.specs.Tallies.{AreKnown}
use Rattle.plan_check.proofs.CustomersOnce.{customer_once}
use Rattle.mixed_model.specs.Kinds.{Agrees}

-- what fails a test isn't among what passes it
filtered_out : (q : ℕ → Bool) (xs : List ℕ) (x : ℕ) → q x ≡ false → times_in (filter q xs) x ≡ 0
filtered_out q [] x out = refl
filtered_out q (y ∷ ys) x out =
    let rest = filtered_out q ys x out in
    elim (cases_Bool (q y)) [
      | inl is ↦
          let apart : nat_eq y x ≡ false = ne_eqb y x (λ e. false≢true (sym out ∙ ap q (sym e) ∙ is)) in
          rw (is, apart) (omega (arith, rest))
      | inr other ↦ rw other rest
    ]

no_customer : (g : Network) (x : ℕ) → is_customer g x ≡ false → times_in (filter (is_customer g) (range_with_len 0 (node_count g))) x ≡ 0
no_customer g x none = filtered_out (is_customer g) (range_with_len 0 (node_count g)) x none

module _ (first g : Network) (agrees : Agrees first g) where
  pub same_customer : (x : ℕ) → x < node_count g → is_customer g x ≡ is_customer first x
  same_customer x known =
      let lists = ap (λ (l : List ℕ). times_in l x) agrees.customers in
      elim (cases_Bool (is_customer g x)) [
        | inl is ↦ elim (cases_Bool (is_customer first x)) [
          | inl theirs ↦ is ∙ sym theirs
          | inr none ↦ absurd (omega (arith, customer_once g x (known, is), no_customer first x none, lists))
        ]
        | inr none ↦ elim (cases_Bool (is_customer first x)) [
          | inl theirs ↦
              let within : x < node_count first = omega (arith, known, agrees.nodes) in
              absurd (omega (arith, customer_once first x (within, theirs), no_customer g x none, lists))
          | inr theirs ↦ none ∙ sym theirs
        ]
      ]

  pub same_number : (x : ℕ) → x ≤ node_count g → customer_number g x ≡ customer_number first x
  same_number zero le = refl
  same_number (suc x) le =
      let before = same_number x (omega (arith, le)) in
      let here = same_customer x (omega (arith, le)) in
      rw (before, here) refl

  pub same_customers : (stops : List Stop) → AreKnown g stops → customers_of g stops ≡ customers_of first stops
  same_customers [] known = refl
  same_customers (s ∷ ss) known =
      let P = λ (s : Stop). s.node < node_count g in
      let rest = same_customers ss (All-tail P s ss known) in
      let here = same_customer s.node (All-head P s ss known) in
      elim (cases_Bool s.via) [
        | inl via ↦ rw via rest
        | inr own ↦ elim (cases_Bool (is_customer g s.node)) [
          | inl is ↦
              let theirs : is_customer first s.node ≡ true = sym here ∙ is in
              rw (own, is, theirs) (ap (λ (cs : List ℕ). s.node ∷ cs) rest)
          | inr other ↦
              let theirs : is_customer first s.node ≡ false = sym here ∙ other in
              rw (own, other, theirs) rest
        ]
      ]

  same_numbered : (xs : List ℕ) → AreBelow (node_count g) xs → map (customer_number g) xs ≡ map (customer_number first) xs
  same_numbered [] below = refl
  same_numbered (x ∷ xs) below =
      let rest = same_numbered xs below.1 in
      let here = same_number x (omega (arith, below.0)) in
      rw (here, rest) refl

  pub same_numbers : (stops : List Stop) → AreKnown g stops → AreBelow (node_count g) (customers_of g stops) → numbers_of g stops ≡ numbers_of first stops
  same_numbers stops known below = same_numbered (customers_of g stops) below ∙ ap (λ (cs : List ℕ). map (customer_number first) cs) (same_customers stops known)
