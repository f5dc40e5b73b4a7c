-- What the shelf and the sink that never fail hold.
use Rattle.std.specs.Prelude.{ℕ, List, Some, None}
use Rattle.ev_outside.specs.MemoryShelf.{state_of}
use Rattle.ev_outside.specs.Shelf.{Files, ShelfState}
use Rattle.ev_outside.specs.Sink.{SinkState}
use Rattle.ev_outside.specs.declared.sure_shelf.SureShelf.{SureShelf}

-- files that are told, and no fault of any name
abbrev pub without_faults : Files → ShelfState
without_faults files = record {
  files = Some files;
  failed_reads = λ name. 0;
  failed_writes = λ name. 0;
  asked = None;
}

-- which names hold which bytes
abbrev pub sure_files : SureShelf → Files
sure_files shelf = (state_of shelf.files).files

abbrev pub sure_state : SureShelf → ShelfState
sure_state shelf = without_faults (sure_files shelf)

-- no file under any name
abbrev pub no_files : Files
no_files name = None

-- bytes that are told, and no fault
abbrev pub sure_output : List ℕ → SinkState
sure_output bytes = record { written = Some bytes; faults = 0 }
