-- What a `Row` means, and sizes of its numbers.
use Rattle.std.specs.Prelude.{ℕ, ◌≤◌, All, unsigned_abs}
use Rattle.master_table.specs.Tableau.{Equation, Limits}
use Rattle.master_table.specs.declared.caps.Caps.{Caps}
use Rattle.master_table.specs.declared.rows.Row.{Row}

abbrev pub equation_of : Row → Equation
equation_of row = record { weight = row.weight; right = row.right; entries = row.entries.items }

-- each number of the row is at most m in size
pub record IsSmallRow (m : ℕ) (row : Equation) : Type 0 where
  pub entries : All (λ x. unsigned_abs x ≤ m) row.entries
  pub right : unsigned_abs row.right ≤ m
  pub weight : unsigned_abs row.weight ≤ m

-- the caps of the code
abbrev pub limits_of : Caps → Limits
limits_of caps = record { body = caps.body; cost = caps.cost }
