-- Times of day in place of times from 0.
use Rattle.std.specs.Prelude.{ℕ, ◌+◌, ◌*◌, ◌/◌, ◌%◌, ◌≤◌, ◌^◌, ◌++◌, Bool, List, [], Option, None, Some, codes, decimal, nat_lt, if◌then◌else◌}
use Rattle.schedule_texts.specs.Decimals.{time_text}
use Rattle.schedule_texts.specs.declared.clock.Clock.{Clock}

-- the numbers of a clock are those of a day and of a unit of time of so many seconds over so many parts
pub record IsClock (c : Clock) : Type 0 where
  pub day : c.begin ≤ 1440
  pub short : c.seconds ≤ 3600
  pub some_parts : 1 ≤ c.parts
  pub few_parts : c.parts ≤ 10 ^ 9

-- a second is so many scaled units of time over `seconds`
abbrev pub parts_of : Clock → ℕ → ℕ
parts_of c denominator = denominator * c.parts

-- the seconds that are nearest to a scaled time, a half up: a unit of time has `seconds / parts` seconds
abbrev pub seconds_of : Clock → ℕ → ℕ → ℕ
seconds_of c denominator scaled =
    (scaled * c.seconds * 2 + parts_of c denominator) / (2 * parts_of c denominator)

-- the seconds from the midnight before time 0
abbrev pub day_seconds : Clock → ℕ → ℕ → ℕ
day_seconds c denominator scaled = c.begin * 60 + seconds_of c denominator scaled

-- a number below 100, in two digits
abbrev pub two_digits : ℕ → List ℕ
two_digits n = (if nat_lt n 10 then codes "0" else []) ++ decimal n

-- how many midnights lie between, where there is one
abbrev pub midnights_text : ℕ → List ℕ
midnights_text days = if nat_lt 0 days then codes "+" ++ decimal days else []

-- hours, minutes and seconds of a day, and behind them how many midnights lie between
unfoldable pub hours_text : ℕ → List ℕ
hours_text t =
    two_digits (t / 3600 % 24) ++ codes ":" ++ two_digits (t / 60 % 60) ++ codes ":"
    ++ two_digits (t % 60) ++ midnights_text (t / 86400)

abbrev pub clock_text : Clock → ℕ → ℕ → List ℕ
clock_text c denominator scaled = hours_text (day_seconds c denominator scaled)

-- the numbers of the clock, where there is one
abbrev pub AreClocks : Option Clock → Type 0
AreClocks None = Unit {0}
AreClocks (Some c) = IsClock c

-- when something happens: by the clock where there is one
abbrev pub moment_text : Option Clock → Bool → ℕ → ℕ → List ℕ
moment_text None exact denominator scaled = time_text exact denominator scaled
moment_text (Some c) exact denominator scaled = clock_text c denominator scaled
