-- What the calls of a system on its files do. One that doesn't tell its bytes has `None` in place of them.
use Rattle.std.specs.Prelude.{◌≡◌, ◌≢◌, ℕ, List, [], Option, Some, None}
use Rattle.std.specs.Option.{option_map}
use Rattle.std.specs.Io.KnownBytes.{append_known}
use Rattle.ev_outside.specs.Shelf.{Files, ShelfState, bytes_under}

-- the files, what is left to read of the one that is open, and the name of the one that is written
pub record Told : Type 0 where
  pub files : Files
  pub rest : List ℕ
  pub target : List ℕ

abbrev pub files_of : Option Told → Option Files
files_of told = option_map (λ t. t.files) told

abbrev pub rest_of : Option Told → Option (List ℕ)
rest_of told = option_map (λ t. t.rest) told

-- the files as a shelf, with one count for all reads and writes of all names
abbrev pub shelf_of : Option Told → ℕ → Option (List ℕ) → ShelfState
shelf_of told failed asked = record {
  files = files_of told;
  failed_reads = λ name. failed;
  failed_writes = λ name. failed;
  asked = asked;
}

-- All bytes of the name are left to read.
abbrev pub Opens : Option Told → List ℕ → Option Told → Type 0
Opens None name new = Unit {0}
Opens (Some old) name None = ⊥
Opens (Some old) name (Some new) = new.rest ≡ bytes_under old.files name

-- The name has no bytes, and is the one that is written.
abbrev pub Creates : List ℕ → Option Told → Type 0
Creates name None = Unit {0}
Creates name (Some new) = (new.files name ≡ Some []) × (new.target ≡ name)

-- The piece stands behind the bytes of the name that is written; every other name holds what it held.
abbrev pub WritesTo : Option Told → List ℕ → Option Told → Type 0
WritesTo None piece None = Unit {0}
WritesTo None piece (Some new) = ⊥
WritesTo (Some old) piece None = ⊥
WritesTo (Some old) piece (Some new) =
    (new.target ≡ old.target) ×
    (new.files old.target ≡ append_known (old.files old.target) piece) ×
    ((other : List ℕ) → other ≢ old.target → new.files other ≡ old.files other)
