-- Customers that stand at most once, by node and by number.
use Rattle.std.proofs.Common.{◌≡◌, ◌≢◌, ℕ, zero, suc, ◌+◌, ◌<◌, ◌≤◌, true, false, refl, ap, subst, List, [], ◌∷◌, ◌++◌, map, arith, inl, inr}
use Rattle.std.specs.Prelude.{nat_eq, if◌then◌else◌}
use Rattle.std.proofs.lemmas.Bool.{cases_eq, cases_lt, eq-eqb, ne_eqb}
use Rattle.customer_sets.specs.CustSet.{has}
use Rattle.ev_model.specs.Fleet.{times_in}
use Rattle.ev_model.specs.Network.{Network, is_customer}
use Rattle.fleet_model.specs.Places.{customer_number}

-- no number stands twice, or among those before
abbrev pub AreNew : List ℕ → List ℕ → Type 0
AreNew before [] = Unit {0}
AreNew before (c ∷ cs) = (has before c ≡ false) × AreNew (c ∷ before) cs

abbrev pub AreCustomers : Network → List ℕ → Type 0
AreCustomers g [] = Unit {0}
AreCustomers g (x ∷ xs) = (is_customer g x ≡ true) × AreCustomers g xs

-- what doesn't stand in a list isn't among its members
absent : (xs : List ℕ) (c : ℕ) → times_in xs c ≡ 0 → has xs c ≡ false
absent [] c none = refl
absent (x ∷ xs) c none = let rest = absent xs c in grind (arith, rest)

pub once_is_new : (before xs : List ℕ) → ((c : ℕ) → times_in before c + times_in xs c ≤ 1) → AreNew before xs
once_is_new before [] once = tt
once_is_new before (x ∷ xs) once =
    let same : nat_eq x x ≡ true = eq-eqb x x refl in
    let at : times_in before x + ((if nat_eq x x then 1 else 0) + times_in xs x) ≤ 1 = once x in
    let here : times_in before x + (1 + times_in xs x) ≤ 1 = rw same at at in
    (absent before x (omega (arith, here)), once_is_new (x ∷ before) xs (λ c. omega (arith, once c)))

pub times_append : (xs ys : List ℕ) (c : ℕ) → times_in (xs ++ ys) c ≡ times_in xs c + times_in ys c
times_append [] ys c = omega arith
times_append (x ∷ xs) ys c = omega (arith, times_append xs ys c)

-- a customer with a smaller node has a smaller number
pub number_less : (g : Network) (x n : ℕ) → is_customer g x ≡ true → x < n → customer_number g x < customer_number g n
number_less g x zero is lt = absurd (omega arith)
number_less g x (suc n) is lt = elim (cases_eq x n) [
  | inl same ↦
      let here : is_customer g n ≡ true = subst (λ m. is_customer g m ≡ true) same is in
      let value : customer_number g x ≡ customer_number g n = ap (λ m. customer_number g m) same in
      rw here (omega (arith, value))
  | inr apart ↦ omega (arith, number_less g x n is (omega (arith, lt, apart)))
]

-- different customers have different numbers
pub number_apart : (g : Network) (x y : ℕ) → is_customer g x ≡ true → is_customer g y ≡ true → x ≢ y → customer_number g x ≢ customer_number g y
number_apart g x y is_x is_y apart same = elim (cases_lt x y) [
  | inl less ↦ omega (arith, same, number_less g x y is_x less)
  | inr more ↦ omega (arith, same, number_less g y x is_y (omega (arith, more, apart)))
]

-- a customer's number stands as often as the customer
pub count_numbers : (g : Network) (xs : List ℕ) (x : ℕ) → AreCustomers g xs → is_customer g x ≡ true → times_in (map (customer_number g) xs) (customer_number g x) ≡ times_in xs x
count_numbers g [] x are is = refl
count_numbers g (y ∷ ys) x are is =
    let rest = count_numbers g ys x are.1 is in
    elim (cases_eq y x) [
      | inl same ↦ rw (eq-eqb y x same, eq-eqb (customer_number g y) (customer_number g x) (ap (customer_number g) same), rest) refl
      | inr apart ↦ rw (ne_eqb y x apart, ne_eqb (customer_number g y) (customer_number g x) (number_apart g y x are.0 is apart), rest) refl
    ]

-- where each customer stands at most once, each number does
pub numbers_once : (g : Network) (xs : List ℕ) → AreCustomers g xs → ((x : ℕ) → is_customer g x ≡ true → times_in xs x ≤ 1) → (c : ℕ) → times_in (map (customer_number g) xs) c ≤ 1
numbers_once g [] are once c = omega arith
numbers_once g (x ∷ xs) are once c =
    let rest = numbers_once g xs are.1 (λ y is. omega (arith, once y is)) c in
    elim (cases_eq (customer_number g x) c) [
      | inl same ↦
          let here : times_in (map (customer_number g) xs) c ≡ times_in xs x = subst (λ d. times_in (map (customer_number g) xs) d ≡ times_in xs x) same (count_numbers g xs x are.1 are.0) in
          let once_x : (if nat_eq x x then 1 else 0) + times_in xs x ≤ 1 = once x are.0 in
          let few : 1 + times_in xs x ≤ 1 = rw (eq-eqb x x refl) at once_x in
          rw (eq-eqb (customer_number g x) c same) (omega (arith, here, few))
      | inr apart ↦ rw (ne_eqb (customer_number g x) c apart) (omega (arith, rest))
    ]
