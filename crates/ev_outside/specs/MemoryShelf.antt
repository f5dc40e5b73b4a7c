-- What a shelf in memory holds, and how it counts.
use Rattle.std.specs.Prelude.{◌≡◌, ◌≢◌, ℕ, Contains, List, [], ◌∷◌, ◌++◌, map, None, Some, string_bytes}
use Rattle.std.specs.List.{count_by}
use Rattle.std.specs.Option.{option_map}
use Rattle.std.specs.Str.{bytes_eq}
use Rattle.std.specs.BTreeMap.{get_by_text}
use Rattle.ev_outside.specs.Counts.{one_more}
use Rattle.ev_outside.specs.Shelf.{Files, ShelfState}
use Rattle.ev_outside.specs.declared.memory_shelf.MemoryShelf.{MemoryShelf}

-- what callers see of a shelf in memory: which names hold which bytes, the names of its failed reads
-- and of its failed writes in order, the count of its calls, and the numbers of those that are to fail
pub record MemoryState : Type 0 where
  pub files : Files
  pub failed_reads : List (List ℕ)
  pub failed_writes : List (List ℕ)
  pub calls : ℕ
  pub fails : List ℕ

abbrev pub state_of : MemoryShelf → MemoryState
state_of shelf = record {
  files = λ name. option_map (λ bytes. bytes.items) (get_by_text shelf.files name);
  failed_reads = map (λ name. string_bytes name) shelf.failed_reads.items;
  failed_writes = map (λ name. string_bytes name) shelf.failed_writes.items;
  calls = shelf.calls;
  fails = shelf.fails.items;
}

-- how often a name stands in a list of names
abbrev pub times_in : List (List ℕ) → List ℕ → ℕ
times_in names name = count_by (λ listed. bytes_eq name listed) names

-- what a shelf in memory is as a shelf: it tells its files, and a count is how often the name stands in a list
abbrev pub told_by : MemoryShelf → ShelfState
told_by shelf = record {
  files = Some (state_of shelf).files;
  failed_reads = times_in (state_of shelf).failed_reads;
  failed_writes = times_in (state_of shelf).failed_writes;
  asked = None;
}

-- no file and no call yet, where the calls with these numbers are to fail
abbrev pub empty_with : List ℕ → MemoryState
empty_with fails =
    record { files = λ name. None; failed_reads = []; failed_writes = []; calls = 0; fails = fails }

-- one call was counted
abbrev pub one_call_more : MemoryState → MemoryState
one_call_more shelf = record shelf { calls = one_more shelf.calls }

-- one call was counted, a read of this name that failed
abbrev pub read_failed : List ℕ → MemoryState → MemoryState
read_failed name shelf =
    record (one_call_more shelf) { failed_reads = shelf.failed_reads ++ name ∷ [] }

-- the same of a write
abbrev pub write_failed : List ℕ → MemoryState → MemoryState
write_failed name shelf =
    record (one_call_more shelf) { failed_writes = shelf.failed_writes ++ name ∷ [] }

-- The next call is one of those that are to fail.
abbrev pub IsNextToFail : MemoryState → Type 0
IsNextToFail shelf = Contains shelf.fails shelf.calls

-- The name holds these bytes, and nothing else has changed.
pub record ChangesFile (name bytes : List ℕ) (old new : MemoryState) : Type 0 where
  pub changed : new.files name ≡ Some bytes
  pub others : (other : List ℕ) → other ≢ name → new.files other ≡ old.files other
  pub failed_reads : new.failed_reads ≡ old.failed_reads
  pub failed_writes : new.failed_writes ≡ old.failed_writes
  pub calls : new.calls ≡ old.calls
  pub fails : new.fails ≡ old.fails
