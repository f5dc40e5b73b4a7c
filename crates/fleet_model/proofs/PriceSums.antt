-- The price sum of a set is the sum over the customers that are in it.
use Rattle.std.proofs.Common.{◌≡◌, ◌∙◌, ℕ, suc, ◌+◌, ◌-◌, ◌<◌, ◌≤◌, Bool, true, false, ◌||◌, List, [], ◌∷◌, length, refl, sym, ap, arith, inl, inr, ℤ, pos, ◌+ℤ◌, cond, nat_eq}
use Rattle.std.specs.Prelude.{slice_index_or}
use Rattle.std.specs.List.Sorted.{IsStrictlyIncreasing}
use Rattle.std.proofs.lemmas.Bool.{cases_eq, eq-eqb, ne_eqb}
use Rattle.std.proofs.lemmas.Int.{ints}
use Rattle.customer_sets.specs.CustSet.{has, IsCustomerSet}
use Rattle.fleet_model.specs.Equations.{total, total_from}
use Rattle.fleet_model.specs.Prices.{price_of, price_sum}

-- numbers from c on, each above the one before
abbrev IsRisingFrom : ℕ → List ℕ → Type 0
IsRisingFrom c [] = Unit {0}
IsRisingFrom c (x ∷ xs) = (c ≤ x) × IsRisingFrom (suc x) xs

rising_rest : (x : ℕ) (xs : List ℕ) → IsStrictlyIncreasing (x ∷ xs) → IsStrictlyIncreasing xs
rising_rest x xs rises k less =
    let place : suc k + 1 ≡ suc (k + 1) = omega arith in
    rw place at (rises (suc k) (omega (arith, less)))

rising_from : (xs : List ℕ) (c : ℕ) → IsStrictlyIncreasing xs → (0 < length xs → c ≤ slice_index_or xs 0 0) → IsRisingFrom c xs
rising_from [] c rises first = tt
rising_from (x ∷ xs) c rises first = (first (omega arith), rising_from xs (suc x) (rising_rest x xs rises) (λ some. omega (arith, rises 0 (omega (arith, some)))))

rising_later : (xs : List ℕ) (b c : ℕ) → b ≤ c → IsRisingFrom c xs → IsRisingFrom b xs
rising_later [] b c le rises = tt
rising_later (x ∷ xs) b c le rises = (omega (arith, le, rises.0), rises.1)

none_before : (xs : List ℕ) (c j : ℕ) → IsRisingFrom c xs → j < c → has xs j ≡ false
none_before [] c j rises less = refl
none_before (x ∷ xs) c j rises less =
    let apart : nat_eq x j ≡ false = ne_eqb x j (λ same. omega (arith, same, less, rises.0)) in
    rw apart (none_before xs (suc x) j rises.1 (omega (arith, less, rises.0)))

-- the sum depends on the choice from c on alone
total_same : (f g : ℕ → Bool) (c : ℕ) (ps : List ℤ) → ((j : ℕ) → c ≤ j → f j ≡ g j) → total_from f c ps ≡ total_from g c ps
total_same f g c [] same = refl
total_same f g c (p ∷ ps) same =
    let here : cond (f c) p (pos 0) ≡ cond (g c) p (pos 0) = ap (λ t. cond t p (pos 0)) (same c (omega arith)) in
    let rest = total_same f g (suc c) ps (λ j le. same j (omega (arith, le))) in
    omega (arith, ints, here, rest)

-- the prices of a set whose first price is that of customer c
abbrev sum_at : ℕ → List ℤ → List ℕ → ℤ
sum_at c ps [] = pos 0
sum_at c ps (x ∷ xs) = slice_index_or ps (x - c) (pos 0) +ℤ sum_at c ps xs

sum_next : (c : ℕ) (p : ℤ) (ps : List ℤ) (xs : List ℕ) → IsRisingFrom (suc c) xs → sum_at c (p ∷ ps) xs ≡ sum_at (suc c) ps xs
sum_next c p ps [] rises = refl
sum_next c p ps (x ∷ xs) rises =
    let next : x - c ≡ suc (x - suc c) = omega (arith, rises.0) in
    let here : slice_index_or (p ∷ ps) (x - c) (pos 0) ≡ slice_index_or ps (x - suc c) (pos 0) = ap (λ k. slice_index_or (p ∷ ps) k (pos 0)) next in
    let rest = sum_next c p ps xs (rising_later xs (suc c) (suc x) (omega (arith, rises.0)) rises.1) in
    omega (arith, ints, here, rest)

sum_nothing : (c : ℕ) (xs : List ℕ) → sum_at c [] xs ≡ pos 0
sum_nothing c [] = refl
sum_nothing c (x ∷ xs) = let rest = sum_nothing c xs in omega (arith, ints, rest)

total_sum : (c : ℕ) (ps : List ℤ) (xs : List ℕ) → IsRisingFrom c xs → total_from (has xs) c ps ≡ sum_at c ps xs
total_sum c [] xs rises = sym (sum_nothing c xs)
total_sum c (p ∷ ps) [] rises = let rest = total_sum (suc c) ps [] tt in omega (arith, ints, rest)
total_sum c (p ∷ ps) (x ∷ xs) rises = elim (cases_eq x c) [
  | inl same ↦
      let is : nat_eq x c ≡ true = eq-eqb x c same in
      let here : cond (nat_eq x c || has xs c) p (pos 0) ≡ p = ap (λ t. cond (t || has xs c) p (pos 0)) is in
      let later : IsRisingFrom (suc c) xs = rising_later xs (suc c) (suc x) (omega (arith, same)) rises.1 in
      let apart : total_from (has (x ∷ xs)) (suc c) ps ≡ total_from (has xs) (suc c) ps = total_same (has (x ∷ xs)) (has xs) (suc c) ps (λ j le. ap (λ t. t || has xs j) (ne_eqb x j (λ e. omega (arith, e, le, same)))) in
      let rest = total_sum (suc c) ps xs later in
      let next = sum_next c p ps xs later in
      let zero_is : x - c ≡ 0 = omega (arith, same) in
      let first : slice_index_or (p ∷ ps) (x - c) (pos 0) ≡ p = ap (λ k. slice_index_or (p ∷ ps) k (pos 0)) zero_is in
      omega (arith, ints, here, apart, rest, next, first)
  | inr other ↦
      let above : IsRisingFrom (suc c) (x ∷ xs) = (omega (arith, rises.0, other), rises.1) in
      let here : cond (has (x ∷ xs) c) p (pos 0) ≡ pos 0 = ap (λ t. cond t p (pos 0)) (none_before (x ∷ xs) (suc c) c above (omega arith)) in
      let rest = total_sum (suc c) ps (x ∷ xs) above in
      let next = sum_next c p ps (x ∷ xs) above in
      omega (arith, ints, here, rest, next)
]

sum_is : (ps : List ℤ) (xs : List ℕ) → sum_at 0 ps xs ≡ price_sum ps xs
sum_is ps [] = refl
sum_is ps (x ∷ xs) =
    let place : x - 0 ≡ x = omega arith in
    let here : slice_index_or ps (x - 0) (pos 0) ≡ price_of ps x = ap (λ k. slice_index_or ps k (pos 0)) place in
    let rest = sum_is ps xs in
    omega (arith, ints, here, rest)

pub price_sum_is_total : (ps : List ℤ) (xs : List ℕ) → IsCustomerSet xs → price_sum ps xs ≡ total (has xs) ps
price_sum_is_total ps xs set = sym (total_sum 0 ps xs (rising_from xs 0 set.rising (λ some. omega arith)) ∙ sum_is ps xs)
