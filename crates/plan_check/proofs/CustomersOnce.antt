-- Each customer stands once among the customers.
use Rattle.std.proofs.Common.{◌≡◌, ℕ, zero, suc, ◌+◌, ◌<◌, ◌≤◌, Bool, true, filter, refl, sym, subst, arith, inl, inr}
use Rattle.std.specs.List.{range_with_len}
use Rattle.std.proofs.lemmas.Bool.{cases_Bool, cases_eq, eq-eqb, ne_eqb}
use Rattle.ev_model.specs.Fleet.{times_in}
use Rattle.ev_model.specs.Network.{Network, is_customer, node_count}
use Rattle.instance_reader.specs.Instance.{customer_nodes}
use Rattle.plan_check.specs.FleetRules.{IsCustomer}

none_before : (q : ℕ → Bool) (a n x : ℕ) → x < a → times_in (filter q (range_with_len a n)) x ≡ 0
none_before q a zero x low = refl
none_before q a (suc n) x low =
    let rest = none_before q (a + 1) n x (omega (arith, low)) in
    elim (cases_Bool (q a)) [
      | inl here ↦ rw (here, ne_eqb a x (omega (arith, low))) (omega (arith, rest))
      | inr out ↦ rw out rest
    ]

pub once_in : (q : ℕ → Bool) (a n x : ℕ) → a ≤ x → x < a + n → q x ≡ true → times_in (filter q (range_with_len a n)) x ≡ 1
once_in q a zero x low high is = absurd (omega (arith, low, high))
once_in q a (suc n) x low high is = elim (cases_eq a x) [
  | inl same ↦
      let here : q a ≡ true = subst (λ y. q y ≡ true) (sym same) is in
      rw (here, eq-eqb a x same) (omega (arith, none_before q (a + 1) n x (omega (arith, same))))
  | inr apart ↦
      let rest = once_in q (a + 1) n x (omega (arith, apart, low)) (omega (arith, high)) is in
      elim (cases_Bool (q a)) [
        | inl here ↦ rw (here, ne_eqb a x apart) (omega (arith, rest))
        | inr out ↦ rw out rest
      ]
]

pub customer_once : (g : Network) (node : ℕ) → IsCustomer g node → times_in (customer_nodes g) node ≡ 1
customer_once g node is = once_in (is_customer g) 0 (node_count g) node (omega arith) (omega (arith, is.0)) is.1
