-- The limits of numbers and counts in texts of certificates, and of such texts.
use Rattle.std.specs.Prelude.{ℕ, ◌^◌, ◌-◌}

-- the greatest bound
abbrev pub greatest_bound : ℕ
greatest_bound = 2 ^ 96

-- the greatest weight of a section, share of a route, and weight of the shares
abbrev pub greatest_weight : ℕ
greatest_weight = 2 ^ 40

-- the greatest price, and the greatest below 0
abbrev pub greatest_price : ℕ
greatest_price = 2 ^ 84

-- the most sections, shares, columns, and labels
abbrev pub most_items : ℕ
most_items = 2 ^ 64 - 1

-- the most bytes of a text
abbrev pub most_bytes : ℕ
most_bytes = 2 ^ 28
