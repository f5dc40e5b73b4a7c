-- The places of an instance by node.
use Rattle.std.specs.Prelude.{ℕ, List, [], Option, None, Some, slice_get}
use Rattle.place_names.specs.declared.place.Place.{Place}

-- the name of a place; no text where there is none
abbrev pub name_of : Option Place → List ℕ
name_of None = []
name_of (Some p) = p.name

-- the name of a node, whose places stand in the order of nodes
abbrev pub name_at : List Place → ℕ → List ℕ
name_at places node = name_of (slice_get places node)
