-- No fractional cover costs less than the price sum over the weight.
use Rattle.std.proofs.Common.{◌≡◌, ◌∙◌, ℕ, zero, suc, ◌+◌, ◌*◌, ◌<◌, ◌≤◌, true, refl, sym, ap, subst, List, [], ◌∷◌, arith, inl, inr}
use Rattle.std.specs.List.{All}
use Rattle.std.specs.Prelude.{if◌then◌else◌, ℤ, pos, ◌+ℤ◌, ◌*ℤ◌, ◌≤ℤ◌}
use Rattle.std.proofs.Math.IntN.{suc_ℤ-*ℤ, zero-*ℤ}
use Rattle.std.proofs.Math.Nat.{mul-le-mul_left}
use Rattle.std.proofs.lemmas.Bool.{cases_Bool}
use Rattle.std.proofs.lemmas.Int.{ints}
use Rattle.std.proofs.lemmas.List.Elements.{All-head, All-tail}
use Rattle.ev_model.specs.Fleet.{customers_of, times_in}
use Rattle.ev_model.specs.Network.{is_customer, IsNetwork, Network, node_count}
use Rattle.ev_model.specs.Route.{route_of}
use Rattle.ev_model.specs.Time.{time_of}
use Rattle.ev_model.specs.declared.Stop.{Stop}
use Rattle.fleet_model.specs.ClosedList.{IsClosed}
use Rattle.fleet_model.specs.Cover.{cost_of_shares, CoverKeepsPairs, IsFleetRoute, IsFractionalCover, Share, shares_of}
use Rattle.fleet_model.specs.Pairs.{PlanKeepsPairs}
use Rattle.fleet_model.specs.Places.{customer_count, customer_number, numbers_of}
use Rattle.fleet_model.specs.Prices.{price_of, price_sum, price_total}
use Rattle.fleet_model.specs.Section.{IsSectionOf, Section}
use Rattle.fleet_model.specs.Whole.{NoFractionIsFaster}
use Rattle.fleet_model.proofs.Fleets.{plan_below}
use Rattle.fleet_model.proofs.Plans.{filtered, plan_pays}
use Rattle.fleet_model.proofs.Weighed.{repeated, repeated_more, sum_to, sum_to_all, sum_weighed, weighed}
use Rattle.fleet_model.proofs.WholeFleets.{same_customers, whole_only, whole_pairs}

-- laws of an amount n times
repeated_sum : (n : ℕ) (a b : ℤ) → repeated n (a +ℤ b) ≡ repeated n a +ℤ repeated n b
repeated_sum zero a b = refl
repeated_sum (suc n) a b = omega (arith, ints, repeated_sum n a b)

repeated_times : (m n : ℕ) (z : ℤ) → repeated (m * n) z ≡ repeated m (repeated n z)
repeated_times zero n z = let none : 0 * n ≡ 0 = omega arith in rw none refl
repeated_times (suc m) n z =
    let next : suc m * n ≡ n + m * n = omega arith in
    rw next (repeated_more n (m * n) z ∙ ap (λ r. repeated n z +ℤ r) (repeated_times m n z))

repeated_less : (n : ℕ) (a b : ℤ) → a ≤ℤ b → repeated n a ≤ℤ repeated n b
repeated_less zero a b le = omega (arith, ints)
repeated_less (suc n) a b le = omega (arith, ints, le, repeated_less n a b le)

repeated_pos : (n t : ℕ) → repeated n (pos t) ≡ pos (n * t)
repeated_pos zero t = let none : 0 * t ≡ 0 = omega arith in rw none refl
repeated_pos (suc n) t =
    let next : suc n * t ≡ t + n * t = omega arith in
    rw next (omega (arith, ints, repeated_pos n t))

repeated_is : (n : ℕ) (z : ℤ) → repeated n z ≡ pos n *ℤ z
repeated_is zero z = sym (zero-*ℤ z)
repeated_is (suc n) z = omega (arith, ints, repeated_is n z, suc_ℤ-*ℤ (pos n) z)

-- what the shares pay
abbrev paid_by : Network → List ℤ → List Share → ℤ
paid_by g prices [] = pos 0
paid_by g prices (x ∷ xs) = repeated x.share (price_sum prices (numbers_of g x.plan)) +ℤ paid_by g prices xs

-- the same customer by customer
abbrev by_customer : Network → List ℤ → List Share → ℕ → ℤ
by_customer g prices xs zero = pos 0
by_customer g prices xs (suc n) =
    by_customer g prices xs n +ℤ (if is_customer g n then repeated (shares_of g xs n) (price_of prices (customer_number g n)) else pos 0)

none_by : (g : Network) (prices : List ℤ) (n : ℕ) → by_customer g prices [] n ≡ pos 0
none_by g prices zero = refl
none_by g prices (suc n) =
    let before = none_by g prices n in
    elim (cases_Bool (is_customer g n)) [
      | inl is ↦ rw (is, before) refl
      | inr other ↦ rw (other, before) refl
    ]

repeated_none : (n : ℕ) → repeated n (pos 0) ≡ pos 0
repeated_none n = let none : n * 0 ≡ 0 = omega arith in repeated_pos n 0 ∙ ap pos none

one_more : (share t u : ℕ) (p a b : ℤ) → (repeated share a +ℤ b) +ℤ repeated (share * t + u) p ≡ repeated share (a +ℤ repeated t p) +ℤ (b +ℤ repeated u p)
one_more share t u p a b =
    omega (arith, ints, repeated_sum share a (repeated t p), repeated_more (share * t) u p, repeated_times share t p)

more_by : (g : Network) (prices : List ℤ) (x : Share) (xs : List Share) (n : ℕ) →
    by_customer g prices (x ∷ xs) n ≡ repeated x.share (weighed g prices (customers_of g x.plan) n) +ℤ by_customer g prices xs n
more_by g prices x xs zero = let none = repeated_none x.share in rw none refl
more_by g prices x xs (suc n) =
    let before = more_by g prices x xs n in
    elim (cases_Bool (is_customer g n)) [
      | inl is ↦ rw (is, before)
          (one_more x.share (times_in (customers_of g x.plan) n) (shares_of g xs n) (price_of prices (customer_number g n)) (weighed g prices (customers_of g x.plan) n) (by_customer g prices xs n))
      | inr other ↦
          let same : weighed g prices (customers_of g x.plan) n +ℤ pos 0 ≡ weighed g prices (customers_of g x.plan) n = omega (arith, ints) in
          rw (other, before, same) (omega (arith, ints))
    ]

all_by : (g : Network) (k : ℕ) (prices : List ℤ) (xs : List Share) → All (λ x. IsFleetRoute g k x.plan) xs → paid_by g prices xs ≡ by_customer g prices xs (node_count g)
all_by g k prices [] routes = sym (none_by g prices (node_count g))
all_by g k prices (x ∷ xs) routes =
    let P = λ (y : Share). IsFleetRoute g k y.plan in
    let route = All-head P x xs routes in
    let one = sum_weighed g prices (customers_of g x.plan) (node_count g) (filtered g (route_of x.plan)) (plan_below g k g.capacity x.plan route.feasible) in
    let rest = all_by g k prices xs (All-tail P x xs routes) in
    rw (one, rest) (sym (more_by g prices x xs (node_count g)))

even_by : (g : Network) (prices : List ℤ) (weight : ℕ) (xs : List Share) (n : ℕ) → ((x : ℕ) → x < n → is_customer g x ≡ true → shares_of g xs x ≡ weight) →
    by_customer g prices xs n ≡ repeated weight (sum_to prices (customer_number g n))
even_by g prices weight xs zero even = sym (repeated_none weight)
even_by g prices weight xs (suc n) even =
    let before = even_by g prices weight xs n (λ x lt is. even x (omega (arith, lt)) is) in
    elim (cases_Bool (is_customer g n)) [
      | inl is ↦
          let here = even n (omega arith) is in
          let next : customer_number g n + 1 ≡ suc (customer_number g n) = omega arith in
          rw (is, before, here, next) (sym (repeated_sum weight (sum_to prices (customer_number g n)) (price_of prices (customer_number g n))))
      | inr other ↦
          let next : customer_number g n + 0 ≡ customer_number g n = omega arith in
          rw (other, before, next) (omega (arith, ints))
    ]

-- each share pays, in kths
share_pays : (k w share t slow : ℕ) (p : ℤ) → p ≤ℤ pos (w * t) → k * t ≤ slow → repeated k (repeated share p) ≤ℤ pos (w * (share * slow))
share_pays k w share t slow p paid le =
    let scaled : w * share * (k * t) ≤ w * share * slow = mul-le-mul_left (w * share) le in
    let most : k * share * (w * t) ≤ w * (share * slow) = omega (arith, scaled) in
    let each = repeated_less (k * share) p (pos (w * t)) paid in
    let same = repeated_times k share p in
    let product = repeated_pos (k * share) (w * t) in
    omega (arith, ints, most, each, same, product)

route_pays : (g : Network) (s : Section) (k share : ℕ) (plan : List Stop) → IsNetwork g → NoFractionIsFaster g → IsSectionOf g s → IsClosed g s → IsFleetRoute g k plan → PlanKeepsPairs g s.allows plan
    → repeated k (repeated share (price_sum s.prices (numbers_of g plan))) ≤ℤ pos (s.weight * (share * time_of g k g.capacity plan))
route_pays g s k share plan network law of closed route keeps =
    let has = law k plan route.feasible in
    let serves = same_customers g k plan has in
    let once : (node : ℕ) → is_customer g node ≡ true → times_in (customers_of g has.whole) node ≤ 1 =
    λ node is. subst (λ c. times_in c node ≤ 1) (sym serves) (route.once node is) in
    let paid = plan_pays g s has.whole network of closed has.feasible (whole_only g k plan has route.only) (whole_pairs g s.allows k plan has keeps) once in
    let here : price_sum s.prices (numbers_of g plan) ≤ℤ pos (s.weight * time_of g 1 g.capacity has.whole) = rw serves at paid in
    share_pays k s.weight share (time_of g 1 g.capacity has.whole) (time_of g k g.capacity plan) (price_sum s.prices (numbers_of g plan)) here has.no_slower

summed : (k w x cost : ℕ) (p q : ℤ) → repeated k p ≤ℤ pos (w * x) → repeated k q ≤ℤ pos (w * cost) → repeated k (p +ℤ q) ≤ℤ pos (w * (x + cost))
summed k w x cost p q one rest =
    let parts : w * (x + cost) ≡ w * x + w * cost = omega arith in
    rw parts (omega (arith, ints, one, rest, repeated_sum k p q))

shares_pay : (g : Network) (s : Section) (k : ℕ) (xs : List Share) → IsNetwork g → NoFractionIsFaster g → IsSectionOf g s → IsClosed g s → All (λ x. IsFleetRoute g k x.plan) xs → CoverKeepsPairs g s.allows xs
    → repeated k (paid_by g s.prices xs) ≤ℤ pos (s.weight * cost_of_shares g k xs)
shares_pay g s k [] network law of closed routes keeps = let none = repeated_none k in rw none (omega (arith, ints))
shares_pay g s k (x ∷ xs) network law of closed routes keeps =
    let P = λ (y : Share). IsFleetRoute g k y.plan in
    let Q = λ (y : Share). PlanKeepsPairs g s.allows y.plan in
    let one = route_pays g s k x.share x.plan network law of closed (All-head P x xs routes) (All-head Q x xs keeps) in
    let rest = shares_pay g s k xs network law of closed (All-tail P x xs routes) (All-tail Q x xs keeps) in
    summed k s.weight (x.share * time_of g k g.capacity x.plan) (cost_of_shares g k xs) (repeated x.share (price_sum s.prices (numbers_of g x.plan))) (paid_by g s.prices xs) one rest

pub cover_cost : (g : Network) (s : Section) (k weight : ℕ) (xs : List Share) → IsNetwork g → NoFractionIsFaster g → IsSectionOf g s → IsClosed g s → IsFractionalCover g k weight xs → CoverKeepsPairs g s.allows xs
    → (pos (k * weight) *ℤ price_total s.prices) ≤ℤ pos (s.weight * cost_of_shares g k xs)
cover_cost g s k weight xs network law of closed cover keeps =
    let paid = shares_pay g s k xs network law of closed cover.routes keeps in
    let all : sum_to s.prices (customer_count g) ≡ price_total s.prices = ap (λ n. sum_to s.prices n) (sym of.one_price) ∙ sum_to_all s.prices in
    let sum : paid_by g s.prices xs ≡ repeated weight (price_total s.prices) =
    all_by g k s.prices xs cover.routes ∙ even_by g s.prices weight xs (node_count g) cover.covers ∙ ap (λ z. repeated weight z) all in
    let product : repeated k (repeated weight (price_total s.prices)) ≡ pos (k * weight) *ℤ price_total s.prices = sym (repeated_times k weight (price_total s.prices)) ∙ repeated_is (k * weight) (price_total s.prices) in
    let whole : repeated k (paid_by g s.prices xs) ≡ pos (k * weight) *ℤ price_total s.prices = ap (λ z. repeated k z) sum ∙ product in
    rw whole at paid
