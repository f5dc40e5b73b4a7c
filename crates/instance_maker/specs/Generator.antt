-- The minimal standard generator of S. K. Park and K. W. Miller (Communications of the ACM 31(10), 1988) with
-- the multiplier 48271 (the same, 36(7), 1993): each draw multiplies the state by it, modulo the prime 2^31 - 1.
use Rattle.std.specs.Prelude.{ℕ, ◌*◌, ◌%◌, ◌^◌}

-- the state after so many draws
abbrev pub state_after : ℕ → ℕ → ℕ
state_after seed draws = seed * 48271 ^ draws % 2147483647

-- what the draw with this number answers, counted from 1
abbrev pub drawn : ℕ → ℕ → ℕ
drawn seed number = state_after seed number % 1000
