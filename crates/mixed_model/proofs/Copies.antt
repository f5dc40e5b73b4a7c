-- The customers of shares, those of each plan as often as its share says.
use Rattle.std.proofs.Common.{◌≡◌, ℕ, zero, suc, ◌+◌, ◌*◌, ◌<◌, true, List, [], ◌∷◌, ◌++◌, map, refl, sym, arith, inl, inr}
use Rattle.std.specs.Prelude.{ℤ, pos, ◌+ℤ◌, ◌*ℤ◌, ◌≤ℤ◌}
use Rattle.std.proofs.Math.IntN.{suc_ℤ-*ℤ, zero-*ℤ}
use Rattle.std.proofs.lemmas.Bool.{cases_Bool}
use Rattle.std.proofs.lemmas.Int.{ints}
use Rattle.ev_model.specs.Fleet.{customers_of, times_in}
use Rattle.ev_model.specs.Network.{is_customer, Network}
use Rattle.ev_model.specs.Route.{route_of}
use Rattle.fleet_model.specs.Cover.{Share, shares_of}
use Rattle.fleet_model.specs.Places.{customer_number}
use Rattle.fleet_model.specs.Prices.{price_of, price_sum}
use Rattle.fleet_model.proofs.Counts.{AreCustomers, times_append}
use Rattle.fleet_model.proofs.Plans.{filtered}
use Rattle.fleet_model.proofs.Weighed.{AreBelow, below_append, customers_append, repeated, sum_append, sum_to, weighed}

-- a list so many times
abbrev pub copies : ℕ → List ℕ → List ℕ
copies zero cs = []
copies (suc n) cs = cs ++ copies n cs

abbrev pub all_copies : Network → List Share → List ℕ
all_copies g [] = []
all_copies g (x ∷ xs) = copies x.share (customers_of g x.plan) ++ all_copies g xs

times_copies : (n : ℕ) (cs : List ℕ) (c : ℕ) → times_in (copies n cs) c ≡ n * times_in cs c
times_copies zero cs c = omega arith
times_copies (suc n) cs c =
    let rest = times_copies n cs c in
    let both = times_append cs (copies n cs) c in
    omega (arith, rest, both)

pub times_all : (g : Network) (xs : List Share) (c : ℕ) → times_in (all_copies g xs) c ≡ shares_of g xs c
times_all g [] c = refl
times_all g (x ∷ xs) c =
    let rest = times_all g xs c in
    let own = times_copies x.share (customers_of g x.plan) c in
    let both = times_append (copies x.share (customers_of g x.plan)) (all_copies g xs) c in
    omega (arith, rest, own, both)

pub below_copies : (n : ℕ) (cs : List ℕ) (nodes : ℕ) → AreBelow nodes cs → AreBelow nodes (copies n cs)
below_copies zero cs nodes below = tt
below_copies (suc n) cs nodes below = below_append cs (copies n cs) nodes below (below_copies n cs nodes below)

customers_copies : (g : Network) (n : ℕ) (cs : List ℕ) → AreCustomers g cs → AreCustomers g (copies n cs)
customers_copies g zero cs are = tt
customers_copies g (suc n) cs are = customers_append g cs (copies n cs) are (customers_copies g n cs are)

pub customers_all : (g : Network) (xs : List Share) → AreCustomers g (all_copies g xs)
customers_all g [] = tt
customers_all g (x ∷ xs) =
    customers_append g (copies x.share (customers_of g x.plan)) (all_copies g xs) (customers_copies g x.share (customers_of g x.plan) (filtered g (route_of x.plan))) (customers_all g xs)

-- ---- amounts n times

repeated_sum : (n : ℕ) (a b : ℤ) → repeated n (a +ℤ b) ≡ repeated n a +ℤ repeated n b
repeated_sum zero a b = refl
repeated_sum (suc n) a b = omega (arith, ints, repeated_sum n a b)

repeated_none : (n : ℕ) → repeated n (pos 0) ≡ pos 0
repeated_none zero = refl
repeated_none (suc n) = omega (arith, ints, repeated_none n)

pub repeated_is : (n : ℕ) (z : ℤ) → repeated n z ≡ pos n *ℤ z
repeated_is zero z = sym (zero-*ℤ z)
repeated_is (suc n) z = omega (arith, ints, repeated_is n z, suc_ℤ-*ℤ (pos n) z)

-- customers that stand equally often have so many times the sum of all prices
pub weighed_evenly : (g : Network) (prices : List ℤ) (xs : List ℕ) (over n : ℕ) → ((x : ℕ) → x < n → is_customer g x ≡ true → times_in xs x ≡ over) →
    weighed g prices xs n ≡ repeated over (sum_to prices (customer_number g n))
weighed_evenly g prices xs over zero even = sym (repeated_none over)
weighed_evenly g prices xs over (suc n) even =
    let before = weighed_evenly g prices xs over n (λ x lt is. even x (omega (arith, lt)) is) in
    elim (cases_Bool (is_customer g n)) [
      | inl is ↦
          let here = even n (omega arith) is in
          let next : customer_number g n + 1 ≡ suc (customer_number g n) = omega arith in
          rw (is, before, here, next) (sym (repeated_sum over (sum_to prices (customer_number g n)) (price_of prices (customer_number g n))))
      | inr other ↦
          let next : customer_number g n + 0 ≡ customer_number g n = omega arith in
          rw (other, before, next) (omega (arith, ints))
    ]

-- ---- what copies pay

summed : (p q : ℤ) (w t u : ℕ) → p ≤ℤ pos (w * t) → q ≤ℤ pos (w * u) → (p +ℤ q) ≤ℤ pos (w * (t + u))
summed p q w t u first second =
    let parts : w * (t + u) ≡ w * t + w * u = omega arith in
    rw parts (omega (arith, ints, first, second))

pub both_pay : (g : Network) (prices : List ℤ) (w t u : ℕ) (xs ys : List ℕ) → price_sum prices (map (customer_number g) xs) ≤ℤ pos (w * t) → price_sum prices (map (customer_number g) ys) ≤ℤ pos (w * u) →
    price_sum prices (map (customer_number g) (xs ++ ys)) ≤ℤ pos (w * (t + u))
both_pay g prices w t u xs ys first second =
    rw (sum_append g prices xs ys) (summed (price_sum prices (map (customer_number g) xs)) (price_sum prices (map (customer_number g) ys)) w t u first second)

pub copies_pay : (g : Network) (prices : List ℤ) (w t n : ℕ) (cs : List ℕ) → price_sum prices (map (customer_number g) cs) ≤ℤ pos (w * t) → price_sum prices (map (customer_number g) (copies n cs)) ≤ℤ pos (w * (n * t))
copies_pay g prices w t zero cs pays = let none : w * (0 * t) ≡ 0 = omega arith in rw none (omega (arith, ints))
copies_pay g prices w t (suc n) cs pays =
    let next : suc n * t ≡ t + n * t = omega arith in
    rw next (both_pay g prices w t (n * t) cs (copies n cs) pays (copies_pay g prices w t n cs pays))
