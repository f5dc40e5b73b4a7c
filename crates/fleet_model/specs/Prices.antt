-- Prices, which may be below 0, by customer number.
use Rattle.std.specs.Prelude.{ℕ, List, [], ◌∷◌, slice_index_or, ℤ, pos, ◌+ℤ◌}
use Rattle.fleet_model.specs.Labels.{Label}

abbrev pub price_of : List ℤ → ℕ → ℤ
price_of prices c = slice_index_or prices c (pos 0)

-- the price sum of a set of customers
abbrev pub price_sum : List ℤ → List ℕ → ℤ
price_sum prices [] = pos 0
price_sum prices (c ∷ set) = price_of prices c +ℤ price_sum prices set

-- the sum of all prices
abbrev pub price_total : List ℤ → ℤ
price_total [] = pos 0
price_total (p ∷ prices) = p +ℤ price_total prices

-- a label of a certificate: its paid sum is the price sum of its set
abbrev pub priced : List ℤ → Label → Label
priced prices l = record l { paid = price_sum prices l.served }
