-- Runs of digits in front of a text.
use Rattle.std.proofs.Common.{◌≡◌, ℕ, ◌≤◌, List, [], ◌∷◌, length, take, arith, refl}
use Rattle.decimal_import.specs.Digits.{digits_in_front}

pub digits_within : (bs : List ℕ) → length (digits_in_front bs) ≤ length bs
digits_within [] = omega arith
digits_within (b ∷ bs) = let more = digits_within bs in grind arith

pub take_digits : (bs : List ℕ) → take (length (digits_in_front bs)) bs ≡ digits_in_front bs
take_digits [] = refl
take_digits (b ∷ bs) = let more = take_digits bs in grind arith

pub ruleset runs_in_front = (digits_within, take_digits)
