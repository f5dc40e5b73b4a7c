-- Sums of shares of listed routes, and what they cost at most.
use Rattle.std.proofs.Common.{◌≡◌, ℕ, zero, suc, ◌+◌, ◌*◌, ◌^◌, ◌<◌, ◌≤◌, true, List, [], ◌∷◌, subst, arith, inl, inr}
use Rattle.std.specs.List.{All}
use Rattle.std.proofs.Math.Nat.{mul-le-mul, mul-le-mul_left}
use Rattle.std.proofs.lemmas.Bool.{cases_eq}
use Rattle.std.proofs.lemmas.List.Elements.{All-head, All-tail}
use Rattle.customer_sets.specs.CustSet.{has}
use Rattle.certificate_check.specs.Routes.{IsRouteAmong}
use Rattle.certificate_check.specs.Shares.{AreEven, listed_cost, share_at, shares_at}
use Rattle.certificate_check.specs.declared.cover.SharedRoute.{SharedRoute}

-- ---- the sum of all shares

sum_shares : List SharedRoute → ℕ
sum_shares [] = 0
sum_shares (x ∷ xs) = x.share + sum_shares xs

-- the shares of the first customers
total_to : List SharedRoute → ℕ → ℕ
total_to xs zero = 0
total_to xs (suc n) = total_to xs n + shares_at n xs

total_grows : (x : SharedRoute) (xs : List SharedRoute) (n : ℕ) → total_to xs n ≤ total_to (x ∷ xs) n
unfolding total_to
total_grows x xs zero = omega arith
total_grows x xs (suc n) =
    let before = total_grows x xs n in
    let some : 0 ≤ share_at n x = omega arith in
    omega (arith, before, some)

total_more : (x : SharedRoute) (xs : List SharedRoute) (c n : ℕ) → c < n → has x.route.set c ≡ true → x.share + total_to xs n ≤ total_to (x ∷ xs) n
unfolding total_to
total_more x xs c zero less served = absurd (omega (arith, less))
total_more x xs c (suc n) less served = elim (cases_eq c n) [
  | inl same ↦
      let before = total_grows x xs n in
      let here : has x.route.set n ≡ true = subst (λ (m : ℕ). has x.route.set m ≡ true) same served in
      rw here (omega (arith, before))
  | inr apart ↦
      let before = total_more x xs c n (omega (arith, less, apart)) served in
      let some : 0 ≤ share_at n x = omega arith in
      omega (arith, before, some)
]

at_most_total : (n : ℕ) (xs : List SharedRoute) → All (λ (x : SharedRoute). IsRouteAmong n x.route) xs → sum_shares xs ≤ total_to xs n
unfolding sum_shares
at_most_total n [] among = omega arith
at_most_total n (x ∷ xs) among =
    let P = λ (y : SharedRoute). IsRouteAmong n y.route in
    let here = All-head P x xs among in
    let rest = at_most_total n xs (All-tail P x xs among) in
    let more = total_more x xs here.customer n here.known here.served in
    omega (arith, rest, more)

even_total : (over : ℕ) (xs : List SharedRoute) (n : ℕ) → AreEven n over xs → total_to xs n ≡ over * n
unfolding total_to
even_total over xs zero even = omega arith
even_total over xs (suc n) even =
    let before = even_total over xs n (λ c less. even c (omega (arith, less))) in
    let here = even n (omega arith) in
    omega (arith, before, here)

-- ---- the cost of a cover

costs_at_most : (n : ℕ) (xs : List SharedRoute) → All (λ (x : SharedRoute). IsRouteAmong n x.route) xs → listed_cost xs ≤ 10 ^ 18 * sum_shares xs
unfolding sum_shares
costs_at_most n [] among = omega arith
costs_at_most n (x ∷ xs) among =
    let P = λ (y : SharedRoute). IsRouteAmong n y.route in
    let rest = costs_at_most n xs (All-tail P x xs among) in
    let each : x.share * x.route.time ≤ x.share * 10 ^ 18 = mul-le-mul_left x.share (All-head P x xs among).time in
    omega (arith, rest, each)

pub small_cost : (n over : ℕ) (xs : List SharedRoute) → n ≤ 128 → over ≤ 2 ^ 40 → All (λ (x : SharedRoute). IsRouteAmong n x.route) xs → AreEven n over xs → listed_cost xs < 2 ^ 110
small_cost n over xs few small among even =
    let cost = costs_at_most n xs among in
    let sum = at_most_total n xs among in
    let total = even_total over xs n even in
    let most : over * n ≤ 2 ^ 40 * 128 = mul-le-mul small few in
    omega (arith, cost, sum, total, most)
