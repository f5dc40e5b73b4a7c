-- What calls on named files do. A shelf that doesn't tell its bytes has `None` in place of its files.
use Rattle.std.specs.Prelude.{◌≡◌, ◌≢◌, ℕ, ◌+◌, ◌≤◌, List, [], ◌++◌, length, take, Option, Some, None, IfSome, unwrap_or}
use Rattle.ev_outside.specs.Counts.{NeverFalls, Stays}
use Rattle.ev_text.specs.Scans.{IsPrefixOf}

-- which names hold which bytes: `None` where a name isn't there
abbrev pub Files : Type 0
Files = List ℕ → Option (List ℕ)

-- what holds of a shelf: which names hold which bytes, where it tells it, how many reads and how
-- many writes of each name have failed, and which name a call asked for last, where it is kept
pub record ShelfState : Type 0 where
  pub files : Option Files
  pub failed_reads : List ℕ → ℕ
  pub failed_writes : List ℕ → ℕ
  pub asked : Option (List ℕ)

-- A call asked for this name last, where that is kept.
abbrev pub HasAsked : List ℕ → Option (List ℕ) → Type 0
HasAsked name asked = IfSome asked (λ kept. kept ≡ name)

-- No count is below what it was.
pub record CountsNeverFall (before now : ShelfState) : Type 0 where
  pub reads : NeverFalls before.failed_reads now.failed_reads
  pub writes : NeverFalls before.failed_writes now.failed_writes

-- Each count is what it was.
pub record CountsStay (before now : ShelfState) : Type 0 where
  pub reads : Stays before.failed_reads now.failed_reads
  pub writes : Stays before.failed_writes now.failed_writes

-- what a read of a name gives: a name that isn't there gives nothing
abbrev pub bytes_under : Files → List ℕ → List ℕ
bytes_under files name = unwrap_or (files name) []

-- The bytes of the name, or its first `most` bytes, were appended; where the shelf doesn't tell
-- them, up to `most` bytes were.
abbrev pub AppendsFile : Option Files → List ℕ → ℕ → List ℕ → List ℕ → Type 0
AppendsFile None name most old new = IsPrefixOf old new × (length new ≤ length old + most)
AppendsFile (Some files) name most old new = new ≡ old ++ take most (bytes_under files name)

-- The name holds exactly these bytes.
abbrev pub HoldsUnder : Option Files → List ℕ → List ℕ → Type 0
HoldsUnder None name bytes = Unit {0}
HoldsUnder (Some files) name bytes = files name ≡ Some bytes

-- Every other name holds what it held, or isn't there as before. Whether a shelf tells its bytes
-- doesn't change.
abbrev pub KeepsOthers : List ℕ → Option Files → Option Files → Type 0
KeepsOthers name None None = Unit {0}
KeepsOthers name (Some old) (Some new) = (other : List ℕ) → other ≢ name → new other ≡ old other
KeepsOthers name None (Some new) = ⊥
KeepsOthers name (Some old) None = ⊥
