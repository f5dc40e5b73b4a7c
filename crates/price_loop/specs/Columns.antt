-- Routes as columns of a master problem.
use Rattle.std.specs.Prelude.{ℕ, ◌+◌, ◌<◌, ◌≤◌, List, [], ◌∷◌, ◌++◌, length, map}
use Rattle.customer_sets.specs.CustSet.{with_customer}
use Rattle.fleet_model.specs.Equations.{Column, helpers, route}

-- the set with further customers
abbrev pub set_of : List ℕ → List ℕ → List ℕ
set_of set [] = set
set_of set (c ∷ cs) = set_of (with_customer c set) cs

-- the column of a route: the set of the customers whom it serves, and what it costs
abbrev pub column : List ℕ → ℕ → Column
column served cost = route (set_of [] served) cost

-- the columns of a master problem of n customers: their helpers, then the routes
abbrev pub columns : {R : Type 0} → ℕ → (R → Column) → List R → List Column
columns n of routes = helpers n ++ map of routes

-- a share is of a route's column: the first n columns are helpers
abbrev pub HasRoute : {R : Type 0} → ℕ → List R → ℕ × ℕ → Type 0
HasRoute n routes x = (n ≤ x.0) × (x.0 < n + length routes)
