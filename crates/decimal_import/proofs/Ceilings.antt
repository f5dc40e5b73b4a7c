-- The least whole number that isn't below a quotient.
use Rattle.std.proofs.Common.{◌≡◌, ℕ, ◌+◌, ◌-◌, ◌*◌, ◌/◌, ◌^◌, ◌<◌, ◌≤◌, List, [], length, take, drop, arith, sym, ap, ◌∙◌, subst, inl, inr, Bool, true, nat_lt, if◌then◌else◌}
use Rattle.std.proofs.Math.Nat.{div-lt_iff_lt-mul, lt-div-mul-add, mul-le-mul_right, le_of_mul-le-mul_right, one-le-pow, pow-le-pow_right}
use Rattle.std.proofs.Math.ListN.{drop_of_length-le}
use Rattle.std.proofs.lemmas.Nat.{pow-add}
use Rattle.std.proofs.lemmas.List.{take-append-drop, take_all, length-drop}
use Rattle.std.proofs.lemmas.List.Folds.{list_all-append}
use Rattle.std.proofs.lemmas.Bool.{cases_lt, and_parts}
use Rattle.std.proofs.lemmas.Bool.Decides.{nat_tests}
use Rattle.std.specs.List.{list_all}
use Rattle.decimal_import.specs.Digits.{number_of, is_digit}
use Rattle.decimal_import.specs.Rounding.{IsCeiling, ceiling, rounded_at}
use Rattle.decimal_import.proofs.Numbers.{number_after-sum, number_after-append, number_of-lt}

pub IsCeiling-unique : (a b m n : ℕ) → IsCeiling a b m → IsCeiling a b n → m ≡ n
IsCeiling-unique a b m n one other =
    let low : m ≤ n = one.least n other.not_below in
    let high : n ≤ m = other.least m one.not_below in
    omega arith

pub IsCeiling-ceiling : (a b : ℕ) → 0 < b → IsCeiling a b (ceiling a b)
unfolding ceiling
IsCeiling-ceiling a b pos =
    let q : ℕ = (a + (b - 1)) / b in
    record {
      not_below = let above : a + (b - 1) < q * b + b = lt-div-mul-add pos in omega arith;
      least = λ m le. let below : a + (b - 1) < (m + 1) * b = omega arith in let lt : q < m + 1 = (div-lt_iff_lt-mul pos).1 below in omega arith;
    }

pub IsCeiling-exact : (n b : ℕ) → 0 < b → IsCeiling (n * b) b n
IsCeiling-exact n b pos = record { not_below = omega arith; least = λ m le. le_of_mul-le-mul_right le pos }

pub IsCeiling-scale : (a b c n : ℕ) → 0 < c → IsCeiling a b n → IsCeiling (a * c) (b * c) n
IsCeiling-scale a b c n pos is = record {
  not_below = let le = mul-le-mul_right c is.not_below in omega arith;
  least = λ m le. is.least m (let again : a * c ≤ (m * b) * c = omega arith in le_of_mul-le-mul_right again pos);
}

-- a whole part, and one more where something is left of it
pub IsCeiling-left : (whole b left : ℕ) → left < b → IsCeiling (whole * b + left) b (whole + (if nat_lt 0 left then 1 else 0))
IsCeiling-left whole b left lt = elim (cases_lt 0 left) [
  | inl some ↦
      let one : nat_lt 0 left ≡ true = grind (arith, nat_tests) in
      rw one (record {
        not_below = omega arith;
        least = λ m le. elim (cases_lt whole m) [ inl more ↦ omega arith | inr few ↦ let less = mul-le-mul_right b few in omega arith ];
      })
  | inr none ↦
      let is_zero : left ≡ 0 = omega arith in
      let pos : 0 < b = omega arith in
      rw is_zero (let e : whole * b + 0 ≡ whole * b = omega arith in let f : whole + 0 ≡ whole = omega arith in rw (e, f) (IsCeiling-exact whole b pos))
]

pub pow_pos : (k : ℕ) → 0 < 10 ^ k
pow_pos k = let one = one-le-pow k 10 (omega arith) in omega arith

pub list_all-drop : (p : ℕ → Bool) (n : ℕ) (xs : List ℕ) → list_all p xs ≡ true → list_all p (drop n xs) ≡ true
list_all-drop p n xs all = (and_parts (list_all p (take n xs)) (list_all p (drop n xs)) (sym (list_all-append p (take n xs) (drop n xs)) ∙ ap (λ ys. list_all p ys) (take-append-drop n xs) ∙ all)).1

-- digits before and behind a place
pub number_of-split : (p : ℕ) (ds : List ℕ) → number_of ds ≡ number_of (take p ds) * 10 ^ length (drop p ds) + number_of (drop p ds)
number_of-split p ds = ap number_of (sym (take-append-drop p ds)) ∙ (number_after-append 0 (take p ds) (drop p ds) ∙ number_after-sum (number_of (take p ds)) (drop p ds))

-- where the point goes behind digits that are followed by zeros
rounded_beyond : (ds : List ℕ) (zeros down : ℕ) → IsCeiling (number_of ds * 10 ^ (zeros + down)) (10 ^ down) (rounded_at (length ds + zeros) ds)
rounded_beyond ds zeros down =
    let all : take (length ds + zeros) ds ≡ ds = take_all (length ds + zeros) ds (omega arith) in
    let none : drop (length ds + zeros) ds ≡ [] = drop_of_length-le ds (omega arith) in
    let behind : length ds + zeros - length ds ≡ zeros = omega arith in
    let powers : number_of ds * 10 ^ (zeros + down) ≡ number_of ds * 10 ^ zeros * 10 ^ down = rw pow-add (omega arith) in
    let whole : number_of ds * 10 ^ zeros + 0 ≡ number_of ds * 10 ^ zeros = omega arith in
    rw (all, none, behind, powers, whole) (IsCeiling-exact (number_of ds * 10 ^ zeros) (10 ^ down) (pow_pos down))

-- where the point goes before the last c digits, or before all of them
rounded_within : (ds : List ℕ) (c up : ℕ) → 0 < c → list_all is_digit ds ≡ true → IsCeiling (number_of ds * 10 ^ up) (10 ^ (c + up)) (rounded_at (length ds - c) ds)
rounded_within ds c up pos digits =
    let p : ℕ = length ds - c in
    let behind : p - length ds ≡ 0 = omega arith in
    let cut : List ℕ = drop p ds in
    let few : length cut ≤ c = omega (arith, length-drop p ds) in
    let small : number_of cut < 10 ^ length cut = number_of-lt cut (list_all-drop is_digit p ds digits) in
    let smaller : 10 ^ length cut ≤ 10 ^ c = pow-le-pow_right (omega arith) few in
    let split : number_of ds ≡ number_of (take p ds) * 10 ^ c + number_of cut = elim (cases_lt (length ds) c) [
      | inl before ↦ let none : p ≡ 0 = omega arith in rw none (omega arith)
      | inr within ↦ let same : length cut ≡ c = length-drop p ds ∙ omega arith in subst (λ (k : ℕ). number_of ds ≡ number_of (take p ds) * 10 ^ k + number_of cut) same (number_of-split p ds)
    ] in
    let one : number_of (take p ds) * 10 ^ 0 ≡ number_of (take p ds) = omega arith in
    let powers : 10 ^ (c + up) ≡ 10 ^ c * 10 ^ up = pow-add 10 c up in
    rw (behind, one, powers, split) (IsCeiling-scale (number_of (take p ds) * 10 ^ c + number_of cut) (10 ^ c) (10 ^ up) _ (pow_pos up) (IsCeiling-left (number_of (take p ds)) (10 ^ c) (number_of cut) (omega arith)))

-- digits with a point, rounded up, are the least whole number that isn't below
pub rounded_at-IsCeiling : (ds : List ℕ) (up down p : ℕ) → p ≡ up + length ds - down → list_all is_digit ds ≡ true → IsCeiling (number_of ds * 10 ^ up) (10 ^ down) (rounded_at p ds)
rounded_at-IsCeiling ds up down p place digits = elim (cases_lt up down) [
  | inl less ↦ within (down - up) up down p (omega arith) (omega arith) (omega arith)
  | inr more ↦ beyond (up - down) up down p (omega arith) (omega arith)
]
  where
    within : (c up down p : ℕ) → 0 < c → down ≡ c + up → p ≡ length ds - c → IsCeiling (number_of ds * 10 ^ up) (10 ^ down) (rounded_at p ds)
    within c up down p pos under at = rw (under, at) (rounded_within ds c up pos digits)

    beyond : (zeros up down p : ℕ) → up ≡ zeros + down → p ≡ length ds + zeros → IsCeiling (number_of ds * 10 ^ up) (10 ^ down) (rounded_at p ds)
    beyond zeros up down p over at = rw (over, at) (rounded_beyond ds zeros down)
