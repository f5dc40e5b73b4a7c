-- Labels found by their node.
use Rattle.std.specs.Prelude.{ℕ, List}
use Rattle.label_index.specs.Entries.{AreEntries as AreEntriesBy, IsEntry as IsEntryBy}
use Rattle.label_index.specs.declared.entry.Entry.{Entry}
use Rattle.near_tree.specs.declared.proof.SectionLabel.{SectionLabel}

abbrev pub label_node : SectionLabel → ℕ
label_node l = l.node

-- the points of a label's value
abbrev pub points_of : SectionLabel → List (ℕ × ℕ)
points_of l = l.value

abbrev pub keeps_nothing : SectionLabel → Unit {0} → Type 0
keeps_nothing l kept = Unit {0}

-- an entry is that of the label with its number
abbrev pub IsEntry : List SectionLabel → Entry (Unit {0}) → Type 0
IsEntry = IsEntryBy label_node points_of keeps_nothing

-- the entries of all labels
abbrev pub AreEntries : List SectionLabel → List (Entry (Unit {0})) → Type 0
AreEntries = AreEntriesBy label_node points_of keeps_nothing
