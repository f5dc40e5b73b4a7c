-- Labels found by how much of the route was passed and by their node.
use Rattle.std.specs.Prelude.{ℕ, ◌+◌, ◌*◌, List}
use Rattle.label_index.specs.Entries.{AreEntries as AreEntriesBy, IsEntry as IsEntryBy}
use Rattle.label_index.specs.declared.entry.Entry.{Entry}
use Rattle.route_proof.specs.declared.proof.RouteLabel.{RouteLabel}

-- one number for how much of the route was passed and for a node
abbrev pub key_of : ℕ → ℕ → ℕ → ℕ
key_of nodes passed node = passed * nodes + node

-- that of a label's place
abbrev pub label_key : ℕ → RouteLabel → ℕ
label_key nodes l = key_of nodes l.passed l.node

-- the points of a label's value
abbrev pub points_of : RouteLabel → List (ℕ × ℕ)
points_of l = l.value

abbrev pub keeps_nothing : RouteLabel → Unit {0} → Type 0
keeps_nothing l kept = Unit {0}

-- an entry is that of the label with its number
abbrev pub IsEntry : ℕ → List RouteLabel → Entry (Unit {0}) → Type 0
IsEntry nodes = IsEntryBy (label_key nodes) points_of keeps_nothing

-- the entries of all labels
abbrev pub AreEntries : ℕ → List RouteLabel → List (Entry (Unit {0})) → Type 0
AreEntries nodes = AreEntriesBy (label_key nodes) points_of keeps_nothing
