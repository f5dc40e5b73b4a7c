-- Ranges of a number in a text: by itself, and by a rule beside it.
use Rattle.std.specs.Prelude.{◌≡◌, ℕ, ◌≤◌, Bool, true}

abbrev pub UpTo : ℕ → ℕ → Type 0
UpTo limit n = n ≤ limit

-- a number up to a limit that keeps a rule
abbrev pub Keeping : ℕ → (ℕ → Bool) → ℕ → Type 0
Keeping limit keeps n = (n ≤ limit) × (keeps n ≡ true)
