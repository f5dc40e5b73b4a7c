-- A number as a set: the places of its binary digits that are 1.
use Rattle.std.specs.Prelude.{◌≡◌, ℕ, zero, suc, ◌+◌, ◌*◌, ◌/◌, ◌%◌, ◌<◌, ◌^◌, Bool, List, nat_eq}
use Rattle.std.specs.Int.{bit_at}
use Rattle.std.specs.List.{filter, range_with_len, sum_by}
use Rattle.std.proofs.Common.{◌∙◌, ap, arith, inl, inr}
use Rattle.std.proofs.Math.Nat.{mod-eq_of_lt, pow-suc}
use Rattle.std.proofs.lemmas.Bool.{cases_eq, eq-eqb, ne_eqb}
use Rattle.std.proofs.lemmas.List.Sums.{sum_by-cons}
use Rattle.std.proofs.lemmas.Nat.{mod-pow-add, shr-shr}
use Rattle.std.proofs.lemmas.Nat.Bits.{bit_at-lt}

abbrev pub is_one : ℕ → ℕ → Bool
is_one bits c = nat_eq (bit_at bits c) 1

-- of n places from a on those whose digit is 1
unfoldable pub members_from : ℕ → ℕ → ℕ → List ℕ
members_from bits a n = filter (is_one bits) (range_with_len a n)

-- the places below 128 whose digit is 1
unfoldable pub members : ℕ → List ℕ
members bits = members_from bits 0 128

-- the number whose digits are 1 at these places
unfoldable pub bits_of : List ℕ → ℕ
bits_of set = sum_by (λ c. 2 ^ c) set

-- n digits from a place on, as a number
unfoldable pub digits : ℕ → ℕ → ℕ → ℕ
digits bits a n = bits / 2 ^ a % 2 ^ n

-- the lowest of them and the others
pub digits-suc : (bits a n : ℕ) → digits bits a (suc n) ≡ digits bits (a + 1) n * 2 + bit_at bits a
unfolding digits
digits-suc bits a n =
    let parts : bits / 2 ^ a % 2 ^ (n + 1) ≡ (bits / 2 ^ a / 2 ^ 1 % 2 ^ n) * 2 ^ 1 + bits / 2 ^ a % 2 ^ 1 = mod-pow-add (bits / 2 ^ a) n 1 in
    let next : bits / 2 ^ a / 2 ^ 1 ≡ bits / 2 ^ (a + 1) = shr-shr bits a 1 in
    let same : suc n ≡ n + 1 = omega arith in
    rw same (parts ∙ ap (λ d. d % 2 ^ n * 2 + bits / 2 ^ a % 2) next)

pub digits-zero : (bits a : ℕ) → digits bits a 0 ≡ 0
unfolding digits
digits-zero bits a = omega arith

pub digits-all : (bits n : ℕ) → bits < 2 ^ n → digits bits 0 n ≡ bits
unfolding digits
digits-all bits n below =
    let whole : bits / 2 ^ 0 ≡ bits = omega arith in
    rw whole (mod-eq_of_lt below)

scaled : (d b p : ℕ) → (d * 2 + b) * p ≡ d * (p * 2) + b * p
scaled d b p = omega arith

sum_of_range : (bits n a : ℕ) →
    sum_by (λ c. 2 ^ c) (members_from bits a n) ≡ digits bits a n * 2 ^ a
unfolding members_from
sum_of_range bits zero a = rw (digits-zero bits a) (omega arith)
sum_of_range bits (suc n) a =
    let rest = sum_of_range bits n (a + 1) in
    let double : 2 ^ (a + 1) ≡ 2 ^ a * 2 = let same : a + 1 ≡ suc a = omega arith in rw same (pow-suc 2 a) in
    let rest_is : sum_by (λ c. 2 ^ c) (members_from bits (a + 1) n) ≡ digits bits (a + 1) n * (2 ^ a * 2) = rest ∙ ap (λ p. digits bits (a + 1) n * p) double in
    let whole = ap (λ d. d * 2 ^ a) (digits-suc bits a n) ∙ scaled (digits bits (a + 1) n) (bit_at bits a) (2 ^ a) in
    elim (cases_eq (bit_at bits a) 1) [
      | inl one ↦
          let more = sum_by-cons (λ c. 2 ^ c) a (members_from bits (a + 1) n) in
          rw (eq-eqb (bit_at bits a) 1 one) (more ∙ omega (arith, rest_is, whole, ap (λ b. b * 2 ^ a) one))
      | inr other ↦
          let none : bit_at bits a ≡ 0 = omega (arith, other, bit_at-lt bits a) in
          rw (ne_eqb (bit_at bits a) 1 other) (omega (arith, rest_is, whole, ap (λ b. b * 2 ^ a) none))
    ]

pub bits_of-members : (bits : ℕ) → bits < 2 ^ 128 → bits_of (members bits) ≡ bits
unfolding bits_of members
bits_of-members bits below =
    let all : digits bits 0 128 * 2 ^ 0 ≡ bits = omega (arith, digits-all bits 128 below) in
    sum_of_range bits 128 0 ∙ all

-- n digits that are all of a number
pub digits_sum : (bits n : ℕ) → bits < 2 ^ n → sum_by (λ c. 2 ^ c) (filter (is_one bits) (range_with_len 0 n)) ≡ bits
unfolding members_from
digits_sum bits n below =
    let all : digits bits 0 n * 2 ^ 0 ≡ bits = omega (arith, digits-all bits n below) in
    sum_of_range bits n 0 ∙ all
