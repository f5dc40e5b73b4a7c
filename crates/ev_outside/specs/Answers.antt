-- What the system answered to a call that gives or takes bytes, and what this crate tells of it.
use Rattle.std.specs.Prelude.{◌≡◌, ℕ, ◌≤◌, Result, Ok, Err, MatchResult}

-- A count is told as it is where it is neither below `least` nor past `most`, and else as a
-- failure; a failure is told as it is.
abbrev pub IsTold : {E : Type 0} → Result ℕ E → ℕ → ℕ → Result ℕ E → Type 0
IsTold (Ok count) least most told =
    MatchResult told (λ n. (n ≡ count) × (least ≤ count) × (count ≤ most))
    (λ _. (least ≤ count × count ≤ most) → ⊥)
IsTold (Err cause) least most told = told ≡ Err cause
