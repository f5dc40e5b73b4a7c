-- Entries that were looked at.
use Rattle.std.specs.Prelude.{slice_index_or}
use Rattle.fleet_model.specs.Labels.{State}
use Rattle.fleet_model.specs.Margins.{Covers}
use Rattle.piece_fn.specs.declared.label.Label.{Label}
use Rattle.closed_lists.specs.Questions.{Question}
use Rattle.closed_lists.specs.Sections.{paid_label}
use Rattle.label_index.specs.declared.entry.Entry.{Entry}
use Rattle.closed_lists.specs.declared.links.Kept.{Kept}

-- the label of an entry does not cover the state
abbrev pub Misses : Question → State → Entry Kept → Type 0
Misses q b e =
    (d : Label) → Covers q.weight (paid_label q.prices (slice_index_or q.labels e.number d)) b → ⊥
