-- The master problem: its table, and the routes of the table's columns.
use Rattle.std.specs.Prelude.{◌≡◌, ◌≢◌, ℕ, ◌<◌, ◌≤◌, ◌^◌, List, ◌++◌, map, get_or, length, take, Option, Some, None, Result, Ok}
use Rattle.std.specs.List.{All}
use Rattle.fleet_model.specs.Basis.{AreIndependent}
use Rattle.fleet_model.specs.Equations.{Column, column_at, helper, helpers}
use Rattle.fleet_model.specs.Wide.{Follow, IsPast}
use Rattle.master_table.specs.Tableau.{Limits, size}
use Rattle.price_loop.specs.Columns.{columns}
use Rattle.price_loop.specs.Problems.{column_of, Problem}
use Rattle.price_loop.specs.declared.fault.MasterFault.{MasterFault}
use Rattle.price_loop.specs.declared.fault.MasterFault.TheVariants.{Memory, Wide}
use Rattle.price_loop.specs.declared.master.Master.{Master}

-- all columns of a master problem: the helpers of its customers, then the routes
abbrev pub columns_of : {R C : Type 0} → Problem R C → List R → List Column
columns_of q routes = columns q.customers (column_of q) routes

-- the added columns of the table are the routes', in order, and its caps are these
pub record IsMaster {R C : Type 0} (q : Problem R C) (caps : Limits) (m : Master R) : Type 0 where
  pub count : size m.table ≡ q.customers
  pub columns_are : m.table.columns ≡ columns_of q m.routes.items
  pub caps_are : m.table.caps ≡ caps
  pub routes_are : All q.is_route m.routes.items
  pub body : caps.body ≤ 2 ^ 40
  pub cost : caps.cost ≤ 2 ^ 84

-- the numbers are those of a basis of these columns of n customers that is past the caps, no two of them the same
pub record IsPastBasis (n : ℕ) (caps : Limits) (all : List Column) (basis : List ℕ) : Type 0 where
  pub past : IsPast caps.body caps.cost n all (map (column_at all) basis)
  pub placed : All (λ j. j < length all) basis
  pub apart : (i j : ℕ) → i < j → j < length basis → get_or basis i 0 ≢ get_or basis j 0

-- routes have a basis that is past the caps
pub record IsWide {R C : Type 0} (q : Problem R C) (caps : Limits) (routes : List R)
    (basis : List ℕ) : Type 0 where
  pub routes_are : All q.is_route routes
  pub past : IsPastBasis q.customers caps (columns_of q routes) basis

-- a listed basis is too wide for the caps: its first m entries are independent, and with the helpers that follow they
-- are a basis past these
pub record IsTooWideAt (body cost n : ℕ) (routes entries : List Column) : Type 0 where
  pub m : ℕ
  pub some : m ≤ length entries
  pub independent : AreIndependent n (take m entries)
  pub customers : List ℕ
  pub follow : Follow n n 0 (take m entries) customers
  pub past : IsPast body cost n (helpers n ++ routes) (take m entries ++ map helper customers)

-- why a master problem over these routes isn't solved
abbrev pub IsFault : {R C : Type 0} → Problem R C → Limits → List R → MasterFault → Type 0
IsFault q caps routes Memory = Unit {0}
IsFault q caps routes (Wide basis) = IsWide q caps routes basis.items

-- where a round found nothing that earns, the master problem is as before
abbrev pub IsStill : {R C : Type 0} → Result (Option C) MasterFault → Master R → Master R → Type 0
IsStill {R} {C} result old new = (closing : C) → result ≡ Ok (Some closing) → new ≡ old

-- where it found something, there are further routes
abbrev pub HasMore : {R C : Type 0} → Result (Option C) MasterFault → Master R → Master R → Type 0
HasMore result old new = result ≡ Ok None → length old.routes.items < length new.routes.items
