-- What a `Table` means, by its fields.
use Rattle.std.specs.Prelude.{◌^◌, ◌≤◌, ◌++◌, length, map}
use Rattle.fleet_model.specs.Equations.{Column, helpers, route}
use Rattle.master_table.specs.Tableau.{IsTableau, IsWithinCaps, Tableau}
use Rattle.master_table.specs.RowView.{equation_of, limits_of}
use Rattle.master_table.specs.declared.table.AddedColumn.{AddedColumn}
use Rattle.master_table.specs.declared.table.Table.TheInside.{Inside}

abbrev pub column_of : AddedColumn → Column
column_of a = route a.set a.cost

abbrev pub tableau_of : Inside → Tableau
tableau_of s = record {
  rows = map equation_of s.rows.items;
  basis = s.basis.items;
  columns = helpers (length s.basis.items) ++ map column_of s.added.items;
  caps = limits_of s.caps;
}

-- it is the table of its basis, and within its caps
pub record IsTable (s : Inside) : Type 0 where
  pub small : length s.basis.items ≤ 128
  pub tableau : IsTableau (tableau_of s)
  pub within : IsWithinCaps (tableau_of s)
  pub body : s.caps.body ≤ 2 ^ 40
  pub cost : s.caps.cost ≤ 2 ^ 84
