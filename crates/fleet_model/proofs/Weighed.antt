-- Price sums, customer by customer.
use Rattle.std.proofs.Common.{◌≡◌, ◌∙◌, ℕ, zero, suc, ◌+◌, ◌<◌, ◌≤◌, true, false, refl, sym, ap, subst, List, [], ◌∷◌, ◌++◌, map, length, arith, inl, inr}
use Rattle.std.specs.Prelude.{nat_eq, if◌then◌else◌, ℤ, pos, ◌+ℤ◌}
use Rattle.std.proofs.lemmas.Bool.{cases_Bool, cases_eq, eq-eqb, ne_eqb}
use Rattle.std.proofs.lemmas.Int.{ints}
use Rattle.ev_model.specs.Fleet.{times_in}
use Rattle.ev_model.specs.Network.{Network, is_customer}
use Rattle.fleet_model.specs.Places.{customer_number}
use Rattle.fleet_model.specs.Prices.{price_of, price_sum, price_total}
use Rattle.fleet_model.proofs.Counts.{AreCustomers}

-- an amount n times
abbrev pub repeated : ℕ → ℤ → ℤ
repeated zero z = pos 0
repeated (suc n) z = z +ℤ repeated n z

pub repeated_more : (m n : ℕ) (z : ℤ) → repeated (m + n) z ≡ repeated m z +ℤ repeated n z
repeated_more zero n z = let same : 0 + n ≡ n = omega arith in rw same (omega (arith, ints))
repeated_more (suc m) n z =
    let same : suc m + n ≡ suc (m + n) = omega arith in
    rw same (omega (arith, ints, repeated_more m n z))

-- the prices of the customers below a node, each as often as a list of nodes says
abbrev pub weighed : Network → List ℤ → List ℕ → ℕ → ℤ
weighed g prices xs zero = pos 0
weighed g prices xs (suc n) =
    weighed g prices xs n +ℤ (if is_customer g n then repeated (times_in xs n) (price_of prices (customer_number g n)) else pos 0)

weighed_none : (g : Network) (prices : List ℤ) (n : ℕ) → weighed g prices [] n ≡ pos 0
weighed_none g prices zero = refl
weighed_none g prices (suc n) =
    let before = weighed_none g prices n in
    elim (cases_Bool (is_customer g n)) [
      | inl is ↦ rw (is, before) refl
      | inr other ↦ rw (other, before) refl
    ]

weighed_above : (g : Network) (prices : List ℤ) (x : ℕ) (xs : List ℕ) (n : ℕ) → n ≤ x → weighed g prices (x ∷ xs) n ≡ weighed g prices xs n
weighed_above g prices x xs zero le = refl
weighed_above g prices x xs (suc n) le =
    let apart : nat_eq x n ≡ false = ne_eqb x n (λ e. omega (arith, e, le)) in
    let before = weighed_above g prices x xs n (omega (arith, le)) in
    let same : 0 + times_in xs n ≡ times_in xs n = omega arith in
    rw (apart, before, same) refl

weighed_more : (g : Network) (prices : List ℤ) (x : ℕ) (xs : List ℕ) (n : ℕ) → is_customer g x ≡ true → x < n →
    weighed g prices (x ∷ xs) n ≡ price_of prices (customer_number g x) +ℤ weighed g prices xs n
weighed_more g prices x xs zero is lt = absurd (omega (arith, lt))
weighed_more g prices x xs (suc n) is lt = elim (cases_eq x n) [
  | inl same ↦
      let here : nat_eq x n ≡ true = eq-eqb x n same in
      let is_n : is_customer g n ≡ true = subst (λ m. is_customer g m ≡ true) same is in
      let before = weighed_above g prices x xs n (omega (arith, same)) in
      let price : price_of prices (customer_number g x) ≡ price_of prices (customer_number g n) = ap (λ m. price_of prices (customer_number g m)) same in
      let once : repeated (1 + times_in xs n) (price_of prices (customer_number g n)) ≡ repeated 1 (price_of prices (customer_number g n)) +ℤ repeated (times_in xs n) (price_of prices (customer_number g n)) =
      repeated_more 1 (times_in xs n) (price_of prices (customer_number g n)) in
      rw (here, is_n, before, price, once) (omega (arith, ints))
  | inr apart ↦
      let other : nat_eq x n ≡ false = ne_eqb x n apart in
      let before = weighed_more g prices x xs n is (omega (arith, lt, apart)) in
      let same : 0 + times_in xs n ≡ times_in xs n = omega arith in
      rw (other, before, same) (omega (arith, ints))
]

abbrev pub AreBelow : ℕ → List ℕ → Type 0
AreBelow n [] = Unit {0}
AreBelow n (x ∷ xs) = (x < n) × AreBelow n xs

pub sum_weighed : (g : Network) (prices : List ℤ) (xs : List ℕ) (n : ℕ) → AreCustomers g xs → AreBelow n xs → price_sum prices (map (customer_number g) xs) ≡ weighed g prices xs n
sum_weighed g prices [] n are below = sym (weighed_none g prices n)
sum_weighed g prices (x ∷ xs) n are below =
    let rest = sum_weighed g prices xs n are.1 below.1 in
    let more = weighed_more g prices x xs n are.0 below.0 in
    rw (rest, more) refl

-- the sum of the first prices
abbrev pub sum_to : List ℤ → ℕ → ℤ
sum_to prices zero = pos 0
sum_to prices (suc n) = sum_to prices n +ℤ price_of prices n

sum_to_none : (n : ℕ) → sum_to [] n ≡ pos 0
sum_to_none zero = refl
sum_to_none (suc n) = let before = sum_to_none n in rw before refl

sum_to_more : (p : ℤ) (prices : List ℤ) (n : ℕ) → sum_to (p ∷ prices) (suc n) ≡ p +ℤ sum_to prices n
sum_to_more p prices zero = omega (arith, ints)
sum_to_more p prices (suc n) = let before = sum_to_more p prices n in rw before (omega (arith, ints))

pub sum_to_all : (prices : List ℤ) → sum_to prices (length prices) ≡ price_total prices
sum_to_all [] = refl
sum_to_all (p ∷ prices) = let rest = sum_to_all prices in sum_to_more p prices (length prices) ∙ rw rest refl

pub weighed_once : (g : Network) (prices : List ℤ) (xs : List ℕ) (n : ℕ) → ((x : ℕ) → x < n → is_customer g x ≡ true → times_in xs x ≡ 1) → weighed g prices xs n ≡ sum_to prices (customer_number g n)
weighed_once g prices xs zero once = refl
weighed_once g prices xs (suc n) once =
    let before = weighed_once g prices xs n (λ x lt is. once x (omega (arith, lt)) is) in
    elim (cases_Bool (is_customer g n)) [
      | inl is ↦
          let here = once n (omega arith) is in
          let next : customer_number g n + 1 ≡ suc (customer_number g n) = omega arith in
          rw (is, before, here, next) (omega (arith, ints))
      | inr other ↦
          let next : customer_number g n + 0 ≡ customer_number g n = omega arith in
          rw (other, before, next) (omega (arith, ints))
    ]

pub sum_append : (g : Network) (prices : List ℤ) (xs ys : List ℕ) → price_sum prices (map (customer_number g) (xs ++ ys)) ≡ price_sum prices (map (customer_number g) xs) +ℤ price_sum prices (map (customer_number g) ys)
sum_append g prices [] ys = omega (arith, ints)
sum_append g prices (x ∷ xs) ys = let rest = sum_append g prices xs ys in rw rest (omega (arith, ints))

pub times_above : (xs : List ℕ) (n c : ℕ) → AreBelow n xs → n ≤ c → times_in xs c ≡ 0
times_above [] n c below le = refl
times_above (x ∷ xs) n c below le =
    let other : nat_eq x c ≡ false = ne_eqb x c (λ e. omega (arith, e, below.0)) in
    rw (other, times_above xs n c below.1 le) refl

pub below_append : (xs ys : List ℕ) (n : ℕ) → AreBelow n xs → AreBelow n ys → AreBelow n (xs ++ ys)
below_append [] ys n first second = second
below_append (x ∷ xs) ys n first second = (first.0, below_append xs ys n first.1 second)

pub customers_append : (g : Network) (xs ys : List ℕ) → AreCustomers g xs → AreCustomers g ys → AreCustomers g (xs ++ ys)
customers_append g [] ys first second = second
customers_append g (x ∷ xs) ys first second = (first.0, customers_append g xs ys first.1 second)
