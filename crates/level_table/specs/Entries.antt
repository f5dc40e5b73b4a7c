-- The two entries of a cell.
use Rattle.std.specs.Prelude.{ℕ, Bool, if◌then◌else◌}

-- which of the two: 0 where the vehicle is plugged in, 1 where it isn't
abbrev pub entry_in_cell : Bool → ℕ
entry_in_cell plugged = if plugged then 0 else 1
