-- The pricing problem: whether some route earns at given prices.
use Rattle.std.specs.Prelude.{ℕ, ◌+◌, ◌*◌, List, [], ◌∷◌, get_or, ℤ, pos, ◌<ℤ◌, ◌≤ℤ◌}
use Rattle.std.specs.List.{All}
use Rattle.fleet_model.specs.Equations.{Column}
use Rattle.fleet_model.specs.Prices.{price_sum}
use Rattle.price_loop.specs.Columns.{column}
use Rattle.price_loop.specs.declared.earners.Earned.{Earned}
use Rattle.price_loop.specs.declared.earners.Earned.TheVariants.{Better, Closed}

-- how many customers there are; the routes, with the numbers of the customers whom each serves, and what it costs; and what
-- shows, at a weight and prices, that no route earns
pub record Problem (R C : Type 0) : Type 1 where
  pub customers : ℕ
  pub is_route : R → Type 0
  pub served : R → List ℕ
  pub cost : R → ℕ
  pub closes : ℕ → List ℤ → C → Type 0

-- a route as a column of the master problem
abbrev pub column_of : {R C : Type 0} → Problem R C → R → Column
column_of q r = column (q.served r) (q.cost r)

-- the prices of a route's customers come to more than its cost, times the weight
pub record IsEarning {R C : Type 0} (q : Problem R C) (weight : ℕ) (prices : List ℤ)
    (r : R) : Type 0 where
  pub route : q.is_route r
  pub earns : pos (weight * q.cost r) <ℤ price_sum prices (q.served r)

-- no route's do
abbrev pub NoneEarns : {R C : Type 0} → Problem R C → ℕ → List ℤ → Type 0
NoneEarns {R} q weight prices =
    (r : R) → q.is_route r → price_sum prices (q.served r) ≤ℤ pos (weight * q.cost r)

-- it shows that no route earns, and none does
pub record IsClosing {R C : Type 0} (q : Problem R C) (weight : ℕ) (prices : List ℤ)
    (closing : C) : Type 0 where
  pub closes : q.closes weight prices closing
  pub none : NoneEarns q weight prices

-- routes that earn, or what shows that none does
abbrev pub IsEarned : {R C : Type 0} → Problem R C → ℕ → List ℤ → Earned R C → Type 0
IsEarned q weight prices (Better first further) =
    IsEarning q weight prices first × All (IsEarning q weight prices) further.items
IsEarned q weight prices (Closed closing) = IsClosing q weight prices closing

-- the price sum of customers by number, at whole prices; who has no price counts 0
abbrev pub worth : List ℕ → List ℕ → ℕ
worth of [] = 0
worth of (c ∷ cs) = get_or of c 0 + worth of cs
