-- The numbers that digits write.
use Rattle.std.proofs.Common.{◌≡◌, ℕ, suc, ◌+◌, ◌-◌, ◌*◌, ◌^◌, ◌<◌, ◌≤◌, min, List, [], ◌∷◌, ◌++◌, length, drop, get_or, arith, refl, sym, ap, ◌∙◌, add-one, drop-cons, inl, inr, true, nat_le}
use Rattle.std.proofs.Math.Nat.{pow-succ', pow-le-pow_right, mul-le-mul_left, mul-le-mul_right}
use Rattle.std.proofs.lemmas.Bool.{cases_lt, and_parts, leb-true}
use Rattle.std.specs.List.{list_all}
use Rattle.decimal_import.specs.Digits.{number_after, number_of, is_digit}

-- more digits make no smaller number
pub number_after_le : (n : ℕ) (ds : List ℕ) → n ≤ number_after n ds
number_after_le n [] = omega arith
number_after_le n (d ∷ ds) = omega (arith, number_after_le (n * 10 + (d - 48)) ds)

-- behind a greater number, digits make no smaller one
pub number_after_mono : (m n : ℕ) (ds : List ℕ) → m ≤ n → number_after m ds ≤ number_after n ds
number_after_mono m n [] le = le
number_after_mono m n (d ∷ ds) le = number_after_mono (m * 10 + (d - 48)) (n * 10 + (d - 48)) ds (omega arith)

-- the digit at an index goes behind the number
pub number_after-drop : (n : ℕ) (ds : List ℕ) (i : ℕ) → i < length ds → number_after n (drop i ds) ≡ number_after (n * 10 + (get_or ds i 0 - 48)) (drop (i + 1) ds)
number_after-drop n ds i lt = rw (add-one, drop-cons ds i 0) refl

-- digits that lead past a limit make a number past it
pub number_after-past : (n limit total : ℕ) (ds : List ℕ) (i : ℕ) → i < length ds → limit < n * 10 + (get_or ds i 0 - 48) → number_after n (drop i ds) ≡ total → limit < total
number_after-past n limit total ds i lt big told =
    omega (arith, number_after_le (n * 10 + (get_or ds i 0 - 48)) (drop (i + 1) ds), number_after-drop n ds i lt)

-- a number that is cut to a limit on the way is the number that is cut to it at the end
pub number_after-min : (n limit : ℕ) (ds : List ℕ) → min (number_after (min n limit) ds) limit ≡ min (number_after n ds) limit
number_after-min n limit ds = elim (cases_lt limit n) [
  | inl past ↦
      let is_limit : min n limit ≡ limit = omega arith in
      let low = number_after_le limit ds in
      let high = number_after_le n ds in
      rw is_limit (omega arith)
  | inr within ↦
      let is_n : min n limit ≡ n = omega arith in
      rw is_n refl
]

-- the same, a digit at a time
pub number_after-min_step : (n limit : ℕ) (ds : List ℕ) (i : ℕ) → i < length ds → min (number_after (min (n * 10 + (get_or ds i 0 - 48)) limit) (drop (i + 1) ds)) limit ≡ min (number_after n (drop i ds)) limit
number_after-min_step n limit ds i lt = rw (number_after-drop n ds i lt) (number_after-min (n * 10 + (get_or ds i 0 - 48)) limit (drop (i + 1) ds))

-- digits behind a number, as a sum
pub number_after-sum : (n : ℕ) (ds : List ℕ) → number_after n ds ≡ n * 10 ^ length ds + number_of ds
number_after-sum n [] = omega arith
number_after-sum n (d ∷ ds) =
    let first : ℕ = d - 48 in
    let power : 10 ^ (suc (length ds)) ≡ 10 * 10 ^ length ds = pow-succ' 10 (length ds) in
    let here = number_after-sum (n * 10 + (d - 48)) ds in
    let alone = number_after-sum (0 * 10 + (d - 48)) ds in
    rw power (omega arith)

pub number_after-append : (n : ℕ) (xs ys : List ℕ) → number_after n (xs ++ ys) ≡ number_after (number_after n xs) ys
number_after-append n [] ys = refl
number_after-append n (x ∷ xs) ys = number_after-append (n * 10 + (x - 48)) xs ys

-- digits write a number of at most as many digits
pub number_of-lt : (ds : List ℕ) → list_all is_digit ds ≡ true → number_of ds < 10 ^ length ds
number_of-lt [] all = omega arith
number_of-lt (d ∷ ds) all =
    let split = and_parts (is_digit d) (list_all is_digit ds) all in
    let digit = and_parts (nat_le 48 d) (nat_le d 57) split.0 in
    let power : 10 ^ (suc (length ds)) ≡ 10 * 10 ^ length ds = pow-succ' 10 (length ds) in
    let rest = number_of-lt ds split.1 in
    let sum = number_after-sum (0 * 10 + (d - 48)) ds in
    let most : d ≤ 57 = leb-true d 57 digit.1 in
    let one_digit : 0 * 10 + (d - 48) ≤ 9 = omega arith in
    rw power (omega (arith, mul-le-mul_right (10 ^ length ds) one_digit))

-- Whether digits write 0.

pub number_of-drop_zero : (ds : List ℕ) (i : ℕ) → i < length ds → get_or ds i 0 ≤ 48 → number_of (drop (i + 1) ds) ≡ number_of (drop i ds)
number_of-drop_zero ds i lt is_zero = let first : 0 * 10 + (get_or ds i 0 - 48) ≡ 0 = omega arith in sym (number_after-drop 0 ds i lt ∙ ap (λ n. number_after n (drop (i + 1) ds)) first)

pub number_of-drop_positive : (ds : List ℕ) (i : ℕ) → i < length ds → 48 < get_or ds i 0 → 0 < number_of (drop i ds)
number_of-drop_positive ds i lt positive = omega (arith, number_after-drop 0 ds i lt, number_after_le (0 * 10 + (get_or ds i 0 - 48)) (drop (i + 1) ds))

pub ruleset number_of_noughts = (number_of-drop_zero, number_of-drop_positive)

-- Zeros behind a number.

pub zeros-step : (start n i : ℕ) → n ≡ start * 10 ^ i → n * 10 ≡ start * 10 ^ (i + 1)
zeros-step start n i told = let power : 10 ^ (i + 1) ≡ 10 * 10 ^ i = rw add-one (pow-succ' 10 i) in rw (power, told) (omega arith)

pub zeros-past : (start n limit i count : ℕ) → n ≡ start * 10 ^ i → i < count → limit < n * 10 → limit < start * 10 ^ count
zeros-past start n limit i count told lt big =
    let step = zeros-step start n i told in
    let more : 10 ^ (i + 1) ≤ 10 ^ count = pow-le-pow_right (omega arith) (omega arith) in
    omega (arith, mul-le-mul_left start more)
