-- The digits of a number, the last one behind the others.
use Rattle.std.proofs.Common.{◌≡◌, ◌∙◌, ℕ, ◌+◌, ◌/◌, ◌%◌, ◌^◌, ◌<◌, ◌≤◌, List, [], ◌∷◌, ◌++◌, decimal, map, sym, ap, arith}
use Rattle.std.specs.Int.Digits.{digits_of}
use Rattle.std.proofs.lemmas.Fmt.{decimal-digits_of}
use Rattle.std.proofs.lemmas.Int.Digits.{digits_of_step}
use Rattle.std.proofs.lemmas.List.{map-append}

pub decimal_step : (n : ℕ) → 10 ≤ n → n < 2 ^ 64 → decimal n ≡ decimal (n / 10) ++ ((48 + n % 10) ∷ [])
decimal_step n large small =
    let front : 0 < n / 10 = omega (arith, large) in
    let less : n / 10 < 2 ^ 64 = omega (arith, small) in
    decimal-digits_of n (omega (arith, large)) small
    ∙ ap (map (λ d. 48 + d)) (digits_of_step 10 n (omega arith) (omega (arith, large)))
    ∙ map-append (λ d. 48 + d) (digits_of 10 (n / 10)) (n % 10 ∷ [])
    ∙ ap (λ (l : List ℕ). l ++ ((48 + n % 10) ∷ [])) (sym (decimal-digits_of (n / 10) front less))
