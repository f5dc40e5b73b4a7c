-- Entries of labels that are found by a key, those of least time first.
use Rattle.std.specs.Prelude.{◌≡◌, ℕ, ◌<◌, ◌≤◌, Bool, List, MatchBool, length, slice_index_or}
use Rattle.std.specs.List.{All, Contains}
use Rattle.std.specs.List.Sorted.{IsNonDecreasingBy}
use Rattle.dominance.specs.LevelTimes.{IsLevel, LevelTimes, time_at}
use Rattle.piece_fn.specs.PieceFn.{level_times}
use Rattle.label_index.specs.declared.entry.Entry.{Entry}

module _ {T : Type 0} where
  -- what an entry tells of its label: its key, what else is kept of it, and the least of its times
  pub record IsEntryOf (named : ℕ) (value : LevelTimes) (kept : T → Type 0)
      (e : Entry T) : Type 0 where
    pub key : e.key ≡ named
    pub rest : kept e.rest
    pub earliest : (level : ℕ) → IsLevel value level → e.time ≤ time_at value level

  -- each of the first n labels has an entry
  abbrev pub HasEntries : ℕ → List (Entry T) → Type 0
  HasEntries n entries =
      (i : ℕ) → i < n → (e : Entry T) × Contains entries e × (e.number ≡ i)

  -- keys rise, and for each key times rise
  pub record AreInOrder (entries : List (Entry T)) : Type 0 where
    pub keys : IsNonDecreasingBy (λ (e : Entry T). e.key) entries
    pub times : (i j : ℕ) (d : Entry T) → i ≤ j → j < length entries →
        (slice_index_or entries i d).key ≡ (slice_index_or entries j d).key →
        (slice_index_or entries i d).time ≤ (slice_index_or entries j d).time

  -- whether there is an entry at a place, with a key and a time that is no later than one
  abbrev pub TellsTime : List (Entry T) → ℕ → ℕ → ℕ → Bool → Type 0
  TellsTime entries at key time is = MatchBool is
      ((at < length entries) × ((d : Entry T) →
      ((slice_index_or entries at d).key ≡ key) × ((slice_index_or entries at d).time ≤ time)))
      ((d : Entry T) → at < length entries → (slice_index_or entries at d).key ≡ key →
      time < (slice_index_or entries at d).time)

-- an entry is that of the label with its number
pub record IsEntry {L T : Type 0} (key_of : L → ℕ) (value_of : L → List (ℕ × ℕ))
    (keeps : L → T → Type 0) (labels : List L) (e : Entry T) : Type 0 where
  pub known : e.number < length labels
  pub told : (d : L) → IsEntryOf (key_of (slice_index_or labels e.number d))
      (level_times (value_of (slice_index_or labels e.number d)))
      (keeps (slice_index_or labels e.number d)) e

-- the entries of all labels
pub record AreEntries {L T : Type 0} (key_of : L → ℕ) (value_of : L → List (ℕ × ℕ))
    (keeps : L → T → Type 0) (labels : List L) (entries : List (Entry T)) : Type 0 where
  pub each : All (IsEntry key_of value_of keeps labels) entries
  pub every : HasEntries (length labels) entries
  pub order : AreInOrder entries
