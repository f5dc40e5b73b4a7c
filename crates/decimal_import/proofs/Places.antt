-- Digits before and behind a point, which two lists hold one after the other.
use Rattle.std.proofs.Common.{◌≡◌, ℕ, ◌+◌, ◌-◌, ◌*◌, ◌^◌, ◌<◌, ◌≤◌, List, [], ◌++◌, length, take, drop, arith, refl, sym, ◌∙◌, inl, inr, length-append, ◌↔◌}
use Rattle.std.proofs.Math.Nat.{mul-le-mul_left}
use Rattle.std.proofs.Math.Seq.{take-append-add, drop-append-add}
use Rattle.std.proofs.lemmas.List.{take-append-le, drop-append-le, take_all, append-nil}
use Rattle.std.proofs.Math.ListN.{drop_of_length-le}
use Rattle.std.proofs.lemmas.Bool.{cases_lt}
use Rattle.decimal_import.specs.Digits.{number_of, number_after}
use Rattle.decimal_import.specs.Rounding.{whole_part}
use Rattle.decimal_import.proofs.Numbers.{number_after_le, number_after-append, number_after-sum}
use Rattle.decimal_import.proofs.Ceilings.{pow_pos}

pub take-append : (p : ℕ) (xs ys : List ℕ) → take p (xs ++ ys) ≡ take p xs ++ take (p - length xs) ys
take-append p xs ys = elim (cases_lt (length xs) p) [
  | inl beyond ↦ further (p - length xs) p (omega arith)
  | inr within ↦
      let none : p - length xs ≡ 0 = omega arith in
      rw none (take-append-le p xs ys within ∙ sym (append-nil (take p xs)))
]
  where
    further : (n q : ℕ) → q ≡ length xs + n → take q (xs ++ ys) ≡ take q xs ++ take (q - length xs) ys
    further n q is =
        let rest : q - length xs ≡ n = omega arith in
        let all : take q xs ≡ xs = take_all q xs (omega arith) in
        rw (rest, all, is) (take-append-add xs ys n)

pub drop-append : (p : ℕ) (xs ys : List ℕ) → drop p (xs ++ ys) ≡ drop p xs ++ drop (p - length xs) ys
drop-append p xs ys = elim (cases_lt (length xs) p) [
  | inl beyond ↦ further (p - length xs) p (omega arith)
  | inr within ↦
      let none : p - length xs ≡ 0 = omega arith in
      rw none (drop-append-le p xs ys within)
]
  where
    further : (n q : ℕ) → q ≡ length xs + n → drop q (xs ++ ys) ≡ drop q xs ++ drop (q - length xs) ys
    further n q is =
        let rest : q - length xs ≡ n = omega arith in
        let all : drop q xs ≡ [] = drop_of_length-le xs (omega arith) in
        rw (rest, all, is) (drop-append-add xs ys n)

-- a number past a limit is past it with zeros behind it
pub past-zeros : (limit n k : ℕ) → limit < n → limit < n * 10 ^ k
past-zeros limit n k past = let one = pow_pos k in let le : 1 ≤ 10 ^ k = omega arith in omega (arith, mul-le-mul_left n le)

-- the number before the point, a list at a time
pub whole_part-append : (p : ℕ) (xs ys : List ℕ) → whole_part p (xs ++ ys) ≡ number_after (number_of (take p xs)) (take (p - length xs) ys) * 10 ^ (p - length xs - length ys)
whole_part-append p xs ys =
    let zeros : p - length (xs ++ ys) ≡ p - length xs - length ys = rw length-append (omega arith) in
    let kept : number_of (take p (xs ++ ys)) ≡ number_after (number_of (take p xs)) (take (p - length xs) ys) = rw (take-append p xs ys) (number_after-append 0 (take p xs) (take (p - length xs) ys)) in
    rw (zeros, kept) refl

-- a number that is past a limit before all of its digits are read is past it
pub whole_part-past_first : (limit p : ℕ) (xs ys : List ℕ) → limit < number_of (take p xs) → limit < whole_part p (xs ++ ys)
whole_part-past_first limit p xs ys past = rw (whole_part-append p xs ys) (past-zeros limit _ (p - length xs - length ys) (let more = number_after_le (number_of (take p xs)) (take (p - length xs) ys) in omega arith))

pub whole_part-past_second : (limit p : ℕ) (xs ys : List ℕ) → limit < number_after (number_of (take p xs)) (take (p - length xs) ys) → limit < whole_part p (xs ++ ys)
whole_part-past_second limit p xs ys past = rw (whole_part-append p xs ys) (past-zeros limit _ (p - length xs - length ys) past)

-- what stands behind the point is 0 where it is in both lists
pub number_of-append_zero : (xs ys : List ℕ) → (number_of (xs ++ ys) ≡ 0) ↔ ((number_of xs ≡ 0) × (number_of ys ≡ 0))
number_of-append_zero xs ys =
    let sum : number_of (xs ++ ys) ≡ number_of xs * 10 ^ length ys + number_of ys = number_after-append 0 xs ys ∙ number_after-sum (number_of xs) ys in
    let pos = pow_pos (length ys) in
    let low : number_of xs ≤ number_of xs * 10 ^ length ys = let le : 1 ≤ 10 ^ length ys = omega arith in omega (arith, mul-le-mul_left (number_of xs) le) in
    (λ none. (omega arith, omega arith), λ both. let first = both.0 in let second = both.1 in sum ∙ rw (first, second) (omega arith))

pub behind_point-zero : (p : ℕ) (xs ys : List ℕ) → (number_of (drop p (xs ++ ys)) ≡ 0) ↔ ((number_of (drop p xs) ≡ 0) × (number_of (drop (p - length xs) ys) ≡ 0))
behind_point-zero p xs ys = rw (drop-append p xs ys) (number_of-append_zero (drop p xs) (drop (p - length xs) ys))
