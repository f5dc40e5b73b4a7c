-- Labels of the worked trees.
use Rattle.std.specs.Prelude.{ℕ, ℤ, List, [], ◌∷◌, pos}
use Rattle.near_tree.specs.Sections.{after, Last, LeafLabel}

-- after a last, at a node, who is remembered and what was earned, with the first level and the
-- times from there
abbrev pub label : Last → ℕ → List ℕ → ℤ → ℕ → List ℕ → LeafLabel
label last node memory earned first times = record {
  last = last;
  label = record {
    last = 0;
    node = node;
    served = memory;
    paid = earned;
    first = first;
    times = times;
  };
}

-- at the depot with a full battery, before any customer
abbrev pub at_start : ℕ → LeafLabel
at_start full = label (after 0) 0 [] (pos 0) full (0 ∷ [])
