-- How the price loop ends.
use Rattle.std.specs.Prelude.{◌≡◌, ℕ, List, length}
use Rattle.std.specs.List.{All}
use Rattle.fleet_model.specs.Equations.{Column}
use Rattle.master_simplex.specs.Answer.{IsAnswer, IsLpWithin}
use Rattle.master_simplex.specs.declared.prices.Lp.{Lp}
use Rattle.master_table.specs.Tableau.{Limits, size, Tableau}
use Rattle.price_loop.specs.Masters.{columns_of, IsWide}
use Rattle.price_loop.specs.Problems.{IsClosing, Problem}
use Rattle.price_loop.specs.declared.ended.LoopEnd.{LoopEnd}
use Rattle.price_loop.specs.declared.ended.LoopEnd.TheVariants.{Closed, Wide}

-- the answer of the simplex method over these columns of n customers, on a table with the caps, at a basis
pub record IsSolved (n : ℕ) (caps : Limits) (all : List Column) (basis : List ℕ)
    (lp : Lp) : Type 0 where
  pub table : Tableau
  pub count : size table ≡ n
  pub columns_are : table.columns ≡ all
  pub caps_are : table.caps ≡ caps
  pub basis_is : table.basis ≡ basis
  pub answer : IsAnswer table lp
  pub within : IsLpWithin table lp

-- the routes' optimum, or their ray, and what shows that beside it no route earns
pub record IsOver {R C : Type 0} (q : Problem R C) (caps : Limits) (lp : Lp) (routes : List R)
    (basis : List ℕ) (closing : C) : Type 0 where
  pub routes_are : All q.is_route routes
  pub solved : IsSolved q.customers caps (columns_of q routes) basis lp
  pub one_price : length lp.prices.items ≡ q.customers
  pub closed : IsClosing q lp.weight lp.prices.items closing

abbrev pub IsEnded : {R C : Type 0} → Problem R C → Limits → LoopEnd R C → Type 0
IsEnded q caps (Closed lp routes basis closing) =
    IsOver q caps lp routes.items basis.items closing
IsEnded q caps (Wide routes basis) = IsWide q caps routes.items basis.items
