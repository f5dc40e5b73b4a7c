-- What a storage in memory tells.
use Rattle.std.specs.Prelude.{ℕ, List, Option, Some, string_bytes}
use Rattle.ev_outside.specs.Kept.{KeptBehind}
use Rattle.ev_outside.specs.MemoryShelf.{state_of}
use Rattle.ev_outside.specs.Storage.{Told, WritesTo}
use Rattle.ev_outside.specs.declared.piece_storage.PieceStorage.{PieceStorage}

-- its files, what is left to read, and its target
abbrev pub told_of : PieceStorage → Told
told_of s = record {
  files = (state_of s.files).files;
  rest = s.rest.items;
  target = string_bytes s.target;
}

abbrev pub told_by : PieceStorage → Option Told
told_by s = Some (told_of s)

-- the bytes of the file that is written
abbrev pub target_bytes : PieceStorage → Option (List ℕ)
target_bytes s = (told_of s).files (told_of s).target

-- the piece stands in its files, and it is the other one then
abbrev pub WritesPiece : PieceStorage → List ℕ → PieceStorage → Type 0
WritesPiece a piece b = WritesTo (told_by a) piece (told_by b)

-- it took the piece, and keeps none that it wasn't told to keep
abbrev pub TakesPiece : PieceStorage → List ℕ → PieceStorage → Type 0
TakesPiece a piece b = WritesPiece a piece b × KeptBehind a.kept piece b.kept
