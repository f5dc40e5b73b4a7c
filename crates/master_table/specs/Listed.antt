-- Listed routes as columns of the master problem, and the columns that entries name.
use Rattle.std.specs.Prelude.{ℕ, List, map, ◌++◌}
use Rattle.fleet_model.specs.Equations.{Column, column_at, helpers, route}
use Rattle.master_table.specs.declared.listed.ListedRoute.{ListedRoute}

-- the column of a listed route
abbrev pub column_of : ListedRoute → Column
column_of r = route r.set r.time

-- the columns of the listed routes
abbrev pub route_columns : List ListedRoute → List Column
route_columns routes = map column_of routes

-- the columns that the entries name: the helpers of n customers come first, then the listed routes
abbrev pub listed_columns : ℕ → List ListedRoute → List ℕ → List Column
listed_columns n routes entries = map (column_at (helpers n ++ route_columns routes)) entries
