-- When what was written into a file lies on its disk.
use Rattle.std.specs.Prelude.{◌≡◌, Bool, List, Option, None, Some, IsSome, [], true, ℕ}
use Rattle.std.specs.Fs.{IsFile}
use Rattle.ev_outside.specs.declared.kept.Emptied.{Emptied}
use Rattle.ev_outside.specs.declared.kept.Emptied.TheVariants as emptied
use Rattle.ev_outside.specs.declared.kept.Kept.{Kept}
use Rattle.ev_outside.specs.declared.kept.Kept.TheVariants as kept

-- A piece was written. A file is kept behind it only where it was before and the piece is empty.
abbrev pub KeptBehind : Bool → List ℕ → Bool → Type 0
KeptBehind before piece after = after ≡ true → (piece ≡ []) × (before ≡ true)

-- A file was emptied: the system took its bytes, or it is no regular one.
abbrev pub ShowsEmptied : Option Emptied → Type 0
ShowsEmptied None = ⊥
ShowsEmptied (Some (emptied.Device found)) = IsFile found → ⊥
ShowsEmptied (Some (emptied.File cut)) = Unit {0}

-- A file is kept: the system synced it, and its folder where that is open, or it is no regular one.
abbrev pub ShowsKept : {F : Type 0} → Option F → Option Kept → Type 0
ShowsKept folder None = ⊥
ShowsKept folder (Some (kept.Device found)) = IsFile found → ⊥
ShowsKept folder (Some (kept.File file listed)) = IsSome folder → IsSome listed
