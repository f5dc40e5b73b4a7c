-- Tables of what ways home earn.
use Rattle.std.specs.Prelude.{◌≡◌, []}
use Rattle.completion_bounds.specs.declared.completion.Completion.{Completion}

-- there is no table
abbrev pub IsNone : Completion → Type 0
IsNone c = c.rests.items ≡ []
