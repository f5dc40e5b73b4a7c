-- What a sink in memory holds, and how it counts.
use Rattle.std.specs.Prelude.{ℕ, ◌/◌, ◌++◌, Contains, List, length, take}
use Rattle.ev_outside.specs.Counts.{one_more}

-- a sink in memory: the bytes that were written, the counts of its calls and of its faults, and the
-- numbers of the calls that are to fail
pub record MemoryOutput : Type 0 where
  pub bytes : List ℕ
  pub calls : ℕ
  pub faults : ℕ
  pub fails : List ℕ

-- the bytes were kept, and one call was counted
abbrev pub after_put : List ℕ → MemoryOutput → MemoryOutput
after_put bytes sink = record sink { bytes = sink.bytes ++ bytes; calls = one_more sink.calls }

-- the first half of the bytes was kept, rounded down, and one call and one fault were counted
abbrev pub after_fault : List ℕ → MemoryOutput → MemoryOutput
after_fault bytes sink =
    record (after_put (take (length bytes / 2) bytes) sink) { faults = one_more sink.faults }

-- The next call is one of those that are to fail.
abbrev pub IsNextToFail : MemoryOutput → Type 0
IsNextToFail sink = Contains sink.fails sink.calls
