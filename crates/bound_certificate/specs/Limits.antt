-- The limits of certificates and of their text.
use Rattle.std.specs.Prelude.{ℕ}
pub use Rattle.certificate_parts.specs.Limits.{greatest_bound, greatest_weight, most_items}

-- the most forbidden pairs: those of 129 places, each with itself too
abbrev pub most_pairs : ℕ
most_pairs = 16641
