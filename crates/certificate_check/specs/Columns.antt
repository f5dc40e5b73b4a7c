-- Listed routes as the exact test of wide bases takes them, and what is told of a wide root.
use Rattle.std.specs.Prelude.{◌≡◌, ℕ, ◌+◌, Bool, true, false, List, Option, None, Some}
use Rattle.std.specs.List.{AllZip}
use Rattle.ev_model.specs.Network.{Network}
use Rattle.fleet_model.specs.Equations.{Column as TableColumn, cost_of, help_of, serves}
use Rattle.fleet_model.specs.Wide.{IsTooWide}
use Rattle.route_plan.specs.declared.plan.RoutePlan.{RoutePlan}
use Rattle.certificate_parts.specs.declared.entry.BasisEntry.{BasisEntry}
use Rattle.certificate_parts.specs.declared.entry.BasisEntry.TheVariants.{Column, Helper}
use Rattle.master_table.specs.Listed.{column_of}
use Rattle.master_table.specs.declared.listed.ListedRoute.{ListedRoute}
use Rattle.certificate_check.specs.Accepted.{IsWideRoot}
use Rattle.certificate_check.specs.Routes.{IsListedRoute}
use Rattle.certificate_check.specs.Rules.{HasFaultyColumn, IsWideBroken}

-- columns that serve the same customers, at the same cost
pub record AreAlike (a b : TableColumn) : Type 0 where
  pub serve : (c : ℕ) → serves a c ≡ serves b c
  pub cost : cost_of a ≡ cost_of b
  pub help : help_of a ≡ help_of b

-- each column is alike that of a listed route
abbrev pub StandFor : List TableColumn → List ListedRoute → Type 0
StandFor columns routes = AllZip (λ c r. AreAlike (column_of r) c) columns routes

-- the basis is too wide to go on, or not
abbrev pub TellsTooWide : ℕ → List TableColumn → List TableColumn → Bool → Type 0
TellsTooWide customers columns basis true = IsTooWide customers columns basis
TellsTooWide customers columns basis false = IsTooWide customers columns basis → ⊥

-- each plan as a listed route
abbrev pub AreListed : Network → List RoutePlan → List ListedRoute → Type 0
AreListed g plans routes = AllZip (λ p r. IsListedRoute g p.stops r) plans routes

-- the plans are told as listed routes, or one of them is none of a fleet
abbrev pub TellsColumns : Network → List RoutePlan → Option (List ListedRoute) → Type 0
TellsColumns g plans None = HasFaultyColumn g plans
TellsColumns g plans (Some routes) = AreListed g plans routes

-- the number of an entry of a basis: those of the helpers come first, and then those of the listed
-- routes
abbrev pub entry_number : ℕ → BasisEntry → ℕ
entry_number customers (Helper c) = c
entry_number customers (Column k) = customers + k

abbrev pub TellsWide : Network → List RoutePlan → List BasisEntry → Bool → Type 0
TellsWide g columns basis true = IsWideRoot g columns basis
TellsWide g columns basis false = IsWideBroken g columns basis
