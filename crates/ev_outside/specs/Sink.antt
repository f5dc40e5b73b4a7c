-- What calls on the output do. A sink that doesn't tell its bytes has `None` in their place.
use Rattle.std.specs.Prelude.{◌≡◌, ℕ, List, ◌++◌, Option, Some, None}
use Rattle.ev_text.specs.Scans.{IsPrefixOf}

-- what holds of an output: the bytes that were written, where it tells them, and how many calls have failed
pub record SinkState : Type 0 where
  pub written : Option (List ℕ)
  pub faults : ℕ

-- The bytes stand at the end of what was written. Whether a sink tells its bytes doesn't change.
abbrev pub Adds : Option (List ℕ) → Option (List ℕ) → List ℕ → Type 0
Adds None new bytes = new ≡ None
Adds (Some old) new bytes = new ≡ Some (old ++ bytes)

-- A prefix of the bytes stands at the end of what was written.
abbrev pub AddsPrefix : Option (List ℕ) → Option (List ℕ) → List ℕ → Type 0
AddsPrefix old new bytes = (part : List ℕ) × IsPrefixOf part bytes × Adds old new part
