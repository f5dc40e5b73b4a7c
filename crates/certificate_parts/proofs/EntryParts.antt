-- The reader of an entry of a basis reads exactly its text.
use Rattle.std.proofs.Common.{inl, inr, ℕ, ◌&&◌, not, List, nat_lt, refl, arith}
use Rattle.std.specs.List.{list_any}
use Rattle.ev_model.specs.Network.{Network}
use Rattle.ev_text.specs.Texts.{StandsUnlessLonger}
use Rattle.ev_text.proofs.ReadingLaws.{Reads}
use Rattle.ev_text.proofs.Choices.{parts-either, reads-optional}
use Rattle.ev_text.proofs.Numbers.{NoDigit, number_is_no_mark, ranged}
use Rattle.ev_text.proofs.Records.{parts-last, reads-record}
use Rattle.route_plan.specs.Limits.{greatest_number}
use Rattle.certificate_parts.specs.Texts.{entry_text}
use Rattle.certificate_parts.specs.Limits.{most_items}
use Rattle.certificate_parts.specs.Ranges.{same_entry}
use Rattle.certificate_parts.specs.Reading.{entry_at, entry_behind, is_customer_node}
use Rattle.certificate_parts.specs.declared.entry.BasisEntry.{BasisEntry}
use Rattle.certificate_parts.specs.declared.entry.BasisEntry.TheVariants.{Helper, Column}
use Rattle.certificate_parts.specs.WrittenRanges.{EntryIs, EntryLoose}

pub reads-entry : (g : Network) (columns : ℕ) (earlier : List BasisEntry) → Reads StandsUnlessLonger (entry_at g columns earlier) entry_text (EntryIs g columns earlier) EntryLoose NoDigit
reads-entry g columns earlier =
    reads-record
    (parts-either (entry_behind g columns earlier) (reads-optional 104)
    (parts-last (ranged greatest_number (λ n. is_customer_node g n && not (list_any (same_entry (Helper n)) earlier)) (omega arith)) (λ node. Helper node))
    (parts-last (ranged most_items (λ n. nat_lt n columns && not (list_any (same_entry (Column n)) earlier)) (omega arith)) (λ number. Column number))
    (λ node rest is before. tt) (λ number rest is before. number_is_no_mark 104 number rest refl (omega (arith, is.0))))
    (record {
      parts = elim [ Helper node ↦ λ is. (inl node, is, refl, λ rest before. before) | Column number ↦ λ is. (inr number, is, refl, λ rest before. before) ];
      fits = elim [ inl node ↦ λ is. is | inr number ↦ λ is. is ];
      loose = elim [ inl node ↦ λ is. is | inr number ↦ λ is. is ];
      texts = elim [ inl node ↦ λ is. refl | inr number ↦ λ is. refl ];
    })
