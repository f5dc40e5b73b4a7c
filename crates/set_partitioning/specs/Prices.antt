-- What prices by number say of candidates. A sum past 128 bits stays at the end of its range.
use Rattle.std.specs.Prelude.{ℕ, ◌*◌, ◌-◌, ◌^◌, List, [], ◌∷◌, get_or, min, Option, None, Some, ℤ, pos, ◌-ℤ◌}
use Rattle.std.specs.Int.{saturate_signed, w128}

abbrev pub less : ℤ → ℤ → ℤ
less z price = saturate_signed w128 (z -ℤ price)

-- past the end of the prices it is 0
abbrev pub price_at : List ℤ → ℕ → ℤ
price_at prices number = get_or prices number (pos 0)

abbrev pub less_all : ℤ → List ℤ → ℤ
less_all z [] = z
less_all z (price ∷ prices) = less_all (less z price) prices

-- what candidates that serve each customer once and cost less than this have an excess below,
-- together
abbrev pub room_of : Option ℕ → ℕ → List ℤ → ℤ
room_of None weight prices = pos (2 ^ 127 - 1)
room_of (Some cost) weight prices =
    less_all (saturate_signed w128 (pos (min cost (2 ^ 127 - 1) * weight))) prices
