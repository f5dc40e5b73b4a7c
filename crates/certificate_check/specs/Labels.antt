-- Labels with a weight, prices and allowed pairs, as a section.
use Rattle.std.specs.Prelude.{ℕ, Bool, List, map, ℤ}
use Rattle.fleet_model.specs.Section.{Section}
use Rattle.piece_fn.specs.declared.label.Label.{Label}
use Rattle.bound_certificate.specs.Meaning.{priced_label}

abbrev pub priced_labels : (ℕ → ℕ → Bool) → ℕ → List ℤ → List Label → Section
priced_labels allows weight prices labels = record {
  weight = weight;
  prices = prices;
  allows = allows;
  labels = map (priced_label prices) labels;
}
