-- A customer's number is its place in the list of customers.
use Rattle.std.proofs.Common.{◌≡◌, ℕ, zero, suc, ◌+◌, true, false, refl, ap, length, Option, Some, None, arith, inl, inr}
use Rattle.std.specs.List.{filter, range_with_len}
use Rattle.std.specs.Prelude.{slice_get}
use Rattle.std.proofs.lemmas.Bool.{cases_Bool}
use Rattle.ev_model.specs.Network.{is_customer, Network, node_count}
use Rattle.fleet_model.specs.Places.{customer_count, customer_number}

next_number : (g : Network) (a : ℕ) → is_customer g a ≡ true → customer_number g (a + 1) ≡ customer_number g a + 1
next_number g a is = let next : a + 1 ≡ suc a = omega arith in rw next (rw is refl)

same_number : (g : Network) (a : ℕ) → is_customer g a ≡ false → customer_number g (a + 1) ≡ customer_number g a
same_number g a other = let next : a + 1 ≡ suc a = omega arith in rw next (rw other (omega arith))

abbrev given : ℕ → Option ℕ → ℕ
given x None = x
given x (Some y) = y

count_from : (g : Network) (n a : ℕ) → customer_number g a + length (filter (is_customer g) (range_with_len a n)) ≡ customer_number g (a + n)
count_from g zero a = let same : a + 0 ≡ a = omega arith in rw same (omega arith)
count_from g (suc n) a =
    let rest = count_from g n (a + 1) in
    let same : a + 1 + n ≡ a + suc n = omega arith in
    let whole : customer_number g (a + 1) + length (filter (is_customer g) (range_with_len (a + 1) n)) ≡ customer_number g (a + suc n) = rw same at rest in
    elim (cases_Bool (is_customer g a)) [
      | inl is ↦ rw is (omega (arith, whole, next_number g a is))
      | inr other ↦ rw other (omega (arith, whole, same_number g a other))
    ]

place_from : (g : Network) (n a m x : ℕ) → slice_get (filter (is_customer g) (range_with_len a n)) m ≡ Some x → customer_number g a + m ≡ customer_number g x
place_from g zero a m x at = absurd (grind (arith, at))
place_from g (suc n) a zero x at = elim (cases_Bool (is_customer g a)) [
  | inl is ↦
      let here : Some a ≡ Some x = rw is at at in
      omega (arith, ap (customer_number g) (ap (given x) here))
  | inr other ↦ omega (arith, place_from g n (a + 1) 0 x (rw other at at), same_number g a other)
]
place_from g (suc n) a (suc m) x at = elim (cases_Bool (is_customer g a)) [
  | inl is ↦ omega (arith, place_from g n (a + 1) m x (rw is at at), next_number g a is)
  | inr other ↦ omega (arith, place_from g n (a + 1) (suc m) x (rw other at at), same_number g a other)
]

pub numbered : (g : Network) (m node : ℕ) → slice_get (filter (is_customer g) (range_with_len 0 (node_count g))) m ≡ Some node → m ≡ customer_number g node
numbered g m node at = omega (arith, place_from g (node_count g) 0 m node at)

pub counted : (g : Network) → length (filter (is_customer g) (range_with_len 0 (node_count g))) ≡ customer_count g
counted g = let same : 0 + node_count g ≡ node_count g = omega arith in let whole = count_from g (node_count g) 0 in omega (arith, rw same at whole)
