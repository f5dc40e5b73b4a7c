-- Master equations: each customer is served once. Their columns, and combinations of them.
use Rattle.std.specs.Prelude.{ℕ, suc, ℤ, pos, ◌+ℤ◌, ◌-ℤ◌, ◌*ℤ◌, List, [], ◌∷◌, map, get_or, Bool, true, cond, nat_eq}
use Rattle.std.specs.List.{list_any, range_with_len}

-- a column: the helper of a customer, who stands in it alone and costs nothing, or a route with the customers
-- that it serves and its time. The master equation of a customer says that the columns that have the customer add up to 1.
pub data Column : Type 0 where
  helper : ℕ → Column
  route : List ℕ → ℕ → Column

-- the customer is in the column
abbrev pub serves : Column → ℕ → Bool
serves (helper customer) c = nat_eq c customer
serves (route set time) c = list_any (λ x. nat_eq x c) set

-- what a column costs
abbrev pub cost_of : Column → ℕ
cost_of (helper customer) = 0
cost_of (route set time) = time

-- 1 for a helper, 0 for a route
abbrev pub help_of : Column → ℕ
help_of (helper customer) = 1
help_of (route set time) = 0

-- the column of a place, and of a place past the end one without customers
abbrev pub column_at : List Column → ℕ → Column
column_at columns j = get_or columns j (route [] 0)

-- the helpers of n customers
abbrev pub helpers : ℕ → List Column
helpers n = map helper (range_with_len 0 n)

-- the sum of the numbers, the first of them that of customer c, whose customer is chosen
abbrev pub total_from : (ℕ → Bool) → ℕ → List ℤ → ℤ
total_from chosen c [] = pos 0
total_from chosen c (m ∷ ms) = cond (chosen c) m (pos 0) +ℤ total_from chosen (suc c) ms

-- the sum of one number for each customer over those that are chosen
abbrev pub total : (ℕ → Bool) → List ℤ → ℤ
total chosen ms = total_from chosen 0 ms

-- A combination of master equations is given by its multipliers, one for each customer. Its coefficient at a
-- column is the sum of them over the column's customers.
abbrev pub entry : List ℤ → Column → ℤ
entry ms column = total (serves column) ms

-- its right side is the sum over all customers
abbrev pub right_side : List ℤ → ℤ
right_side ms = total (λ c. true) ms

-- f times one list less g times another
abbrev pub combined : ℤ → ℤ → List ℤ → List ℤ → List ℤ
combined f g [] ys = []
combined f g (x ∷ xs) [] = []
combined f g (x ∷ xs) (y ∷ ys) = (f *ℤ x -ℤ g *ℤ y) ∷ combined f g xs ys
