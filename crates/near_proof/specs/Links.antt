-- Labels found by their node.
use Rattle.std.specs.Prelude.{ℕ, List}
use Rattle.label_index.specs.Entries.{AreEntries as AreEntriesBy, IsEntry as IsEntryBy}
use Rattle.label_index.specs.declared.entry.Entry.{Entry}
use Rattle.near_proof.specs.declared.proof.NearLabel.{NearLabel}

abbrev pub node_of : NearLabel → ℕ
node_of l = l.node

-- the points of a label's value
abbrev pub points_of : NearLabel → List (ℕ × ℕ)
points_of l = l.value

abbrev pub keeps_nothing : NearLabel → Unit {0} → Type 0
keeps_nothing l kept = Unit {0}

-- an entry is that of the label with its number
abbrev pub IsEntry : List NearLabel → Entry (Unit {0}) → Type 0
IsEntry = IsEntryBy node_of points_of keeps_nothing

-- the entries of all labels
abbrev pub AreEntries : List NearLabel → List (Entry (Unit {0})) → Type 0
AreEntries = AreEntriesBy node_of points_of keeps_nothing
