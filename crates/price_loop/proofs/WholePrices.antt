-- Whole prices as signed ones.
use Rattle.std.proofs.Common.{◌≡◌, ℕ, zero, suc, ◌<◌, refl, ap, arith, List, [], ◌∷◌, get_or, length, map, take, ℤ, pos, ◌≤ℤ◌}
use Rattle.std.proofs.lemmas.Int.{ints}
use Rattle.fleet_model.specs.Prices.{price_of, price_total}

pub take_whole : (k : ℕ) (xs : List ℕ) → take k (map pos xs) ≡ map pos (take k xs)
take_whole zero xs = refl
take_whole (suc k) [] = refl
take_whole (suc k) (x ∷ xs) = ap (λ (ys : List ℤ). pos x ∷ ys) (take_whole k xs)

pub price_whole : (xs : List ℕ) (c : ℕ) → price_of (map pos xs) c ≡ pos (get_or xs c 0)
price_whole [] zero = refl
price_whole [] (suc c) = refl
price_whole (x ∷ xs) zero = refl
price_whole (x ∷ xs) (suc c) = price_whole xs c

pub some_sum : (xs : List ℕ) → pos 0 ≤ℤ price_total (map pos xs)
some_sum [] = omega (arith, ints)
some_sum (x ∷ xs) = let rest = some_sum xs in omega (arith, ints, rest)

pub sum_at_least : (xs : List ℕ) (c : ℕ) → c < length xs → pos (get_or xs c 0) ≤ℤ price_total (map pos xs)
sum_at_least [] c less = absurd (omega (arith, less))
sum_at_least (x ∷ xs) zero less = let rest = some_sum xs in omega (arith, ints, rest)
sum_at_least (x ∷ xs) (suc c) less = let rest = sum_at_least xs c (omega (arith, less)) in omega (arith, ints, rest)
