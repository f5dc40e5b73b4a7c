-- Labels found by their last customer's node and their node.
use Rattle.std.specs.Prelude.{◌≡◌, ℕ, ◌+◌, ◌*◌, ◌≤◌, ◌^◌, List, All, length, ℤ, unsigned_abs}
use Rattle.fleet_model.specs.Prices.{price_sum}
use Rattle.label_index.specs.Entries.{AreEntries as AreEntriesBy, IsEntry as IsEntryBy, IsEntryOf as IsEntryOfBy}
use Rattle.label_index.specs.declared.entry.Entry.{Entry}
use Rattle.piece_fn.specs.PieceFn.{level_times}
use Rattle.piece_fn.specs.declared.label.Label.{Label}
use Rattle.closed_lists.specs.declared.links.Kept.{Kept}

-- one number for a last customer's node and a node
abbrev pub key_of : ℕ → ℕ → ℕ → ℕ
key_of nodes last node = last * nodes + node

-- that of a label's nodes
abbrev pub label_key : ℕ → Label → ℕ
label_key nodes l = key_of nodes l.last l.node

-- the points of a label's value
abbrev pub points_of : Label → List (ℕ × ℕ)
points_of l = l.value

-- what is kept of a label: its set, and what it has paid
pub record IsKept (prices : List ℤ) (l : Label) (kept : Kept) : Type 0 where
  pub set : kept.set ≡ l.set
  pub paid : kept.paid ≡ price_sum prices l.set
  pub small : unsigned_abs kept.paid ≤ 2 ^ 91

-- prices that can be summed up
pub record CanPay (prices : List ℤ) : Type 0 where
  pub few : length prices ≤ 128
  pub small : All (λ price. unsigned_abs price ≤ 2 ^ 84) prices

-- what an entry tells of its label
abbrev pub IsEntryOf : ℕ → List ℤ → Label → Entry Kept → Type 0
IsEntryOf nodes prices l = IsEntryOfBy (label_key nodes l) (level_times l.value) (IsKept prices l)

-- an entry is that of the label with its number
abbrev pub IsEntry : ℕ → List ℤ → List Label → Entry Kept → Type 0
IsEntry nodes prices = IsEntryBy (label_key nodes) points_of (IsKept prices)

-- the entries of all labels
abbrev pub AreEntries : ℕ → List ℤ → List Label → List (Entry Kept) → Type 0
AreEntries nodes prices = AreEntriesBy (label_key nodes) points_of (IsKept prices)
