-- Kinds of vehicles by their numbers, and lists of labels by the customers of the first kind.
use Rattle.std.proofs.Common.{◌≡◌, ℕ, suc, ◌<◌, List, [], ◌∷◌, length, map, ap, arith}
use Rattle.std.specs.List.{All}
use Rattle.std.specs.Prelude.{slice_index_or}
use Rattle.std.proofs.lemmas.List.Elements.{All-get_or}
use Rattle.ev_model.specs.Network.{IsNetwork, Network}
use Rattle.piece_fn.specs.declared.label.Label.{Label}
use Rattle.certificate_parts.specs.Written.{WrittenLabel, nodes_in}
use Rattle.mixed_model.specs.Kinds.{Agrees, AreKinds, first_of, network_of, no_network}
use Rattle.mixed_text.specs.MixedIn.{ListFits}
use Rattle.mixed_text.specs.Written.{written_labels}
use Rattle.mixed_text.specs.WrittenRanges.{OneEach}

pub first_is_network : (kinds : List Network) → All IsNetwork kinds → AreKinds kinds → IsNetwork (first_of kinds)
first_is_network kinds networks are = All-get_or IsNetwork kinds 0 no_network (let some = are.some in omega (arith, some)) networks

pub agrees : (kinds : List Network) (kind : ℕ) → AreKinds kinds → kind < length kinds → Agrees (first_of kinds) (network_of kinds kind)
agrees kinds kind are known = All-get_or (Agrees (first_of kinds)) kinds kind no_network known are.agree

abbrev written_by : List ℕ → Label → WrittenLabel
written_by nodes l = record { last = l.last; node = l.node; served = nodes_in l.set 0 nodes; points = l.value }

-- the labels of a kind are written by the customers of any that agrees with it
pub by_first : (first g : Network) → Agrees first g → (labels : List Label) → written_labels g labels ≡ written_labels first labels
by_first first g agree labels = ap (λ (nodes : List ℕ). map (written_by nodes) labels) agree.customers

-- lists of labels that fit by number fit one after another
pub each_fits : (kinds : List Network) (lists : List (List Label)) → length lists ≡ length kinds → ((kind : ℕ) → kind < length kinds → ListFits (network_of kinds kind) (slice_index_or lists kind [])) → OneEach ListFits kinds lists
each_fits [] [] count fit = tt
each_fits [] (labels ∷ lists) count fit = absurd (omega (arith, count))
each_fits (g ∷ kinds) [] count fit = absurd (omega (arith, count))
each_fits (g ∷ kinds) (labels ∷ lists) count fit = (fit 0 (omega arith), each_fits kinds lists (omega (arith, count)) (λ kind known. fit (suc kind) (omega (arith, known))))
