-- The readers of the bound and of the basis read exactly their lines.
use Rattle.std.proofs.Common.{inl, inr, ℕ, false, List, [], ◌∷◌, ◌++◌, ◌≤◌, None, Some, decimal, codes, refl, sym, subst, append_assoc, arith}
use Rattle.ev_model.specs.Network.{Network}
use Rattle.ev_text.specs.Texts.{AreLooseRun, AreRun, StandsUnlessLonger}
use Rattle.ev_text.proofs.ChoiceLaws.{BeforeChoice}
use Rattle.ev_text.proofs.ReadingLaws.{Reads}
use Rattle.ev_text.proofs.Choices.{parts-either, reads-choice}
use Rattle.ev_text.proofs.Lines.{reads-line}
use Rattle.ev_text.proofs.Numbers.{Anything, number_is_no_word, upto}
use Rattle.ev_text.proofs.Records.{parts-behind, parts-none, parts-then, reads-record}
use Rattle.certificate_parts.specs.Texts.{basis_text, bound_text, entry_text}
use Rattle.certificate_parts.specs.Limits.{greatest_bound}
use Rattle.certificate_parts.specs.Ranges.{customer_count}
use Rattle.certificate_parts.specs.Reading.{basis_at, bound_at, bound_behind, entry_at}
use Rattle.certificate_parts.specs.declared.entry.BasisEntry.TheVariants.{Helper}
use Rattle.certificate_parts.specs.WrittenRanges.{BoundIs, EntryIs, EntryLoose, next_entry}
use Rattle.certificate_parts.proofs.EntryParts.{reads-entry}

number_is_not_none : (n : ℕ) (rest : List ℕ) → n ≤ greatest_bound → BeforeChoice (codes "none" ++ 10 ∷ []) false ((decimal n ++ 10 ∷ []) ++ rest)
number_is_not_none n rest small =
    subst (BeforeChoice (codes "none" ++ 10 ∷ []) false) (sym (append_assoc (decimal n) (10 ∷ []) rest)) (number_is_no_word 110 (codes "one" ++ 10 ∷ []) n ((10 ∷ []) ++ rest) refl (omega (arith, small)))

pub reads-bound : Reads StandsUnlessLonger bound_at bound_text BoundIs BoundIs Anything
reads-bound =
    reads-record
    (parts-behind 98 (codes "ound ") (parts-either bound_behind (reads-choice 110 (codes "one" ++ 10 ∷ [])) (parts-none None)
    (parts-then (upto greatest_bound (omega arith)) (λ n. parts-behind 10 [] (parts-none (Some n))) (λ n none rest small fits any. refl))
    (λ none rest fits any. tt) (λ p rest is any. number_is_not_none p.0 rest is.0)))
    (record {
      parts = elim [ None ↦ λ is. (inl tt, tt, refl, λ rest any. tt) | Some n ↦ λ is. (inr (n, tt), (is, tt), refl, λ rest any. tt) ];
      fits = elim [ inl none ↦ λ is. tt | inr p ↦ λ is. is.0 ];
      loose = elim [ inl none ↦ λ is. tt | inr p ↦ λ is. is.0 ];
      texts = elim [ inl none ↦ λ is. refl | inr p ↦ λ is. refl ];
    })

pub reads-basis : (g : Network) (columns : ℕ) → Reads StandsUnlessLonger (basis_at g columns) basis_text (AreRun (EntryIs g columns) next_entry (customer_count g) []) (AreLooseRun EntryLoose (customer_count g)) Anything
reads-basis g columns =
    reads-line 98 (codes "asis") (entry_at g columns) next_entry entry_text (EntryIs g columns) EntryLoose (Helper 0, omega arith) (reads-entry g columns) (customer_count g) []
