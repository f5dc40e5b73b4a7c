-- The time of day at which vehicles begin, and how long a unit of time of the instance is, as words.
use Rattle.std.specs.Prelude.{◌==◌, ◌&&◌, ℕ, ◌+◌, ◌-◌, ◌*◌, ◌≤◌, ◌^◌, Bool, [], ◌∷◌, Option, None, Some, nat_lt, if◌then◌else◌}
use Rattle.std.specs.Char.{is_ascii_digit}
use Rattle.clap.specs.Words.{Text}
use Rattle.call_words.specs.Numbers.{number_of}
use Rattle.view_words.specs.declared.clock.DayClock.{DayClock}

-- the number of two digits
abbrev pub two_of : ℕ → ℕ → ℕ
two_of a b = (a - 48) * 10 + (b - 48)

-- the five bytes are `HH:MM`, a time of day
abbrev pub is_time : ℕ → ℕ → ℕ → ℕ → ℕ → Bool
is_time h i colon m n =
    is_ascii_digit h && is_ascii_digit i && (colon == 58) && is_ascii_digit m
    && is_ascii_digit n && nat_lt (two_of h i) 24 && nat_lt (two_of m n) 60

-- the minutes from midnight of the word `HH:MM`; none of other words
abbrev pub begin_of : Text → Option ℕ
begin_of (h ∷ i ∷ colon ∷ m ∷ n ∷ []) =
    if is_time h i colon m n then Some (two_of h i * 60 + two_of m n) else None
begin_of other = None

-- a unit is cut into at most so many parts
abbrev pub most_parts : ℕ
most_parts = 10 ^ 9

-- so many seconds over a number of parts, which is at least 1
abbrev pub with_parts : ℕ → Option ℕ → Option (ℕ × ℕ)
with_parts seconds None = None
with_parts seconds (Some parts) = if nat_lt 0 parts then Some (seconds, parts) else None

-- what stands behind the word of a unit of so many seconds: nothing, or `/N` where it has N parts
abbrev pub unit_over : ℕ → Text → Option (ℕ × ℕ)
unit_over seconds [] = Some (seconds, 1)
unit_over seconds (slash ∷ number) =
    if slash == 47 then with_parts seconds (number_of most_parts number) else None

-- minutes, whose word is `min`
abbrev pub minutes_of : ℕ → Text → Option (ℕ × ℕ)
minutes_of m (i ∷ n ∷ rest) =
    if (m == 109) && (i == 105) && (n == 110) then unit_over 60 rest else None
minutes_of m other = None

-- a unit of time in seconds over parts: of `s`, `min` or `h`, with `/N` behind it where it is one of N
-- parts of that
abbrev pub unit_of : Text → Option (ℕ × ℕ)
unit_of [] = None
unit_of (first ∷ rest) =
    if first == 115 then unit_over 1 rest
    else if first == 104 then unit_over 3600 rest else minutes_of first rest

-- both together
abbrev pub day_clock : Option ℕ → Option (ℕ × ℕ) → Option (Option DayClock)
day_clock (Some begin) (Some unit) =
    Some (Some (record { begin = begin; seconds = unit.0; parts = unit.1 }))
day_clock begin unit = None

-- the clock of the words for both, which are given together or not at all
abbrev pub clock_of : Option Text → Option Text → Option (Option DayClock)
clock_of None None = Some None
clock_of (Some begin) (Some unit) = day_clock (begin_of begin) (unit_of unit)
clock_of begin unit = None

-- the numbers of a clock that words name
pub record IsDayClock (c : DayClock) : Type 0 where
  pub day : c.begin ≤ 1440
  pub short : c.seconds ≤ 3600
  pub some_parts : 1 ≤ c.parts
  pub few_parts : c.parts ≤ 10 ^ 9

pub record IsUnit (unit : ℕ × ℕ) : Type 0 where
  pub short : unit.0 ≤ 3600
  pub some_parts : 1 ≤ unit.1
  pub few_parts : unit.1 ≤ 10 ^ 9
