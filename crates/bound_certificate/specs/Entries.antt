-- The entries of a basis of the master problem.
use Rattle.std.specs.Prelude.{ℕ, ◌-◌, nat_lt, if◌then◌else◌}
use Rattle.certificate_parts.specs.declared.entry.BasisEntry.{BasisEntry}
use Rattle.certificate_parts.specs.declared.entry.BasisEntry.TheVariants as entry

-- the entry of a basis column: a helper where its number is below that of the helpers, else a listed column
abbrev pub entry_of : ℕ → ℕ → BasisEntry
entry_of n j = if nat_lt j n then entry.Helper j else entry.Column (j - n)
