-- Decimal digits, as the bytes of a text.
use Rattle.std.specs.Prelude.{ℕ, ◌+◌, ◌-◌, ◌*◌, ◌&&◌, List, [], ◌∷◌, nat_le, Bool, if◌then◌else◌}

abbrev pub is_digit : ℕ → Bool
is_digit b = nat_le 48 b && nat_le b 57

-- the longest run of digits in front
abbrev pub digits_in_front : List ℕ → List ℕ
digits_in_front [] = []
digits_in_front (b ∷ bs) = if is_digit b then b ∷ digits_in_front bs else []

-- the number that digits write behind those of n
abbrev pub number_after : ℕ → List ℕ → ℕ
number_after n [] = n
number_after n (d ∷ ds) = number_after (n * 10 + (d - 48)) ds

-- the number that digits write
abbrev pub number_of : List ℕ → ℕ
number_of ds = number_after 0 ds
