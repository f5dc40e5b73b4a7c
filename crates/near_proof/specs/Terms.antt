-- What near routes are judged by (the ng-route relaxation: Baldacci, Mingozzi, Roberti 2011).
-- Customers are told by their numbers.
use Rattle.std.specs.Prelude.{ℕ, zero, suc, ◌+◌, List, [], ◌∷◌, slice_index, slice_index_or}
use Rattle.std.specs.List.{filter, sum_by}
use Rattle.customer_sets.specs.CustSet.{has}

-- the weight of time, the prices, and the near sets
pub record Terms : Type 0 where
  pub weight : ℕ
  pub prices : List ℕ
  pub sets : List (List ℕ)

abbrev pub price_of : List ℕ → ℕ → ℕ
price_of prices c = slice_index prices c

-- what is earned by serving customers, each as often as it is served
abbrev pub earned_by : List ℕ → List ℕ → ℕ
earned_by prices customers = sum_by (price_of prices) customers

-- the sum of all prices
abbrev pub price_total : List ℕ → ℕ
price_total prices = sum_by (λ price. price) prices

-- the prices, that of one customer one higher
abbrev pub raised : List ℕ → ℕ → List ℕ
raised [] c = []
raised (price ∷ prices) zero = (price + 1) ∷ prices
raised (price ∷ prices) (suc c) = price ∷ raised prices c

abbrev pub near_set : List (List ℕ) → ℕ → List ℕ
near_set sets c = slice_index_or sets c []

-- who is remembered after serving a customer: the customer, and those remembered before who are
-- in the customer's near set
abbrev pub remembered : List (List ℕ) → List ℕ → ℕ → List ℕ
remembered sets memory c = c ∷ filter (has (near_set sets c)) memory
