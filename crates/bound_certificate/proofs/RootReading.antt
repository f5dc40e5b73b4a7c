-- The reader of the root reads exactly its lines.
use Rattle.std.proofs.Common.{◌≡◌, ◌≢◌, ◌∙◌, inl, inr, ℕ, false, List, [], ◌∷◌, ◌++◌, decimal, codes, length, nat_le, refl, sym, subst, append_assoc, arith}
use Rattle.std.proofs.lemmas.List.{append_cancel_left}
use Rattle.std.specs.List.{All}
use Rattle.ev_model.specs.Network.{Network}
use Rattle.ev_text.specs.Readers.{so_many}
use Rattle.ev_text.specs.Texts.{AreLooseRun, AreRun, StandsUnlessLonger, joined_texts}
use Rattle.ev_text.proofs.ChoiceLaws.{BeforeChoice}
use Rattle.ev_text.proofs.ReadingLaws.{Reads}
use Rattle.ev_text.proofs.RunLaws.{reads-so_many}
use Rattle.ev_text.proofs.Choices.{parts-either, reads-choice}
use Rattle.ev_text.proofs.Lines.{loose_length, own_length}
use Rattle.ev_text.proofs.Numbers.{Anything, ranged, upto}
use Rattle.ev_text.proofs.Records.{parts-behind, parts-last, parts-none, parts-then, reads-record}
use Rattle.route_plan.specs.declared.plan.RoutePlan.{RoutePlan}
use Rattle.certificate_parts.specs.Texts.{basis_text}
use Rattle.bound_certificate.specs.CertificateTexts.{column_text, root_text, share_text}
use Rattle.certificate_parts.specs.Limits.{greatest_weight, most_items}
use Rattle.certificate_parts.specs.Ranges.{ColumnFits, customer_count}
use Rattle.bound_certificate.specs.Reading.{column_at, exact_or_wide, none_or_other, root_at, share_at}
use Rattle.certificate_parts.specs.declared.entry.BasisEntry.{BasisEntry}
use Rattle.bound_certificate.specs.declared.certificate.Root.TheVariants as root
use Rattle.bound_certificate.specs.declared.certificate.Share.{Share}
use Rattle.certificate_parts.specs.WrittenRanges.{EntryIs, next_entry}
use Rattle.bound_certificate.specs.WrittenRanges.{RootIs, RootLoose, ShareIs, ShareLoose}
use Rattle.certificate_parts.proofs.BasisLines.{reads-basis}
use Rattle.bound_certificate.proofs.RootParts.{reads-column, reads-share}

-- a word that differs from a text behind what both begin with
other_behind : (front : List ℕ) (b c : ℕ) (word rest : List ℕ) → c ≢ b → BeforeChoice (front ++ b ∷ word) false (front ++ c ∷ rest)
other_behind front b c word rest other = (
  λ h. other (first_byte (append_cancel_left front (c ∷ rest) (b ∷ (word ++ h.0)) (h.1 ∙ append_assoc front (b ∷ word) h.0))),
  λ h. other (sym (first_byte (append_cancel_left front (b ∷ word) (c ∷ (rest ++ h.0)) (h.1 ∙ append_assoc front (c ∷ rest) h.0)))),
)
  where
    first_byte : {x y : ℕ} {xs ys : List ℕ} → x ∷ xs ≡ y ∷ ys → x ≡ y
    first_byte same = cc

shares_read : (count : ℕ) → Reads StandsUnlessLonger (so_many count share_at) (joined_texts share_text) (λ shares. All ShareIs shares × (length shares ≡ count)) (AreLooseRun ShareLoose count) Anything
shares_read count = reads-so_many StandsUnlessLonger share_at share_text ShareIs ShareLoose Anything reads-share (λ x rest. tt) count

columns_read : (count : ℕ) → Reads StandsUnlessLonger (so_many count column_at) (joined_texts column_text) (λ columns. All ColumnFits columns × (length columns ≡ count)) (AreLooseRun ColumnFits count) Anything
columns_read count = reads-so_many StandsUnlessLonger column_at column_text ColumnFits ColumnFits Anything reads-column (λ p rest. tt) count

exact_lines : (over count : ℕ) (shares : List Share) → length shares ≡ count
    → codes "root exact " ++ (decimal over ++ (codes " " ++ (decimal count ++ (10 ∷ joined_texts share_text shares)))) ≡ root_text (root.Exact over shares)
exact_lines over count shares many =
    subst (λ (n : ℕ). codes "root exact " ++ (decimal over ++ (codes " " ++ (decimal n ++ (10 ∷ joined_texts share_text shares)))) ≡ root_text (root.Exact over shares)) many (simp append_assoc)

wide_lines : (count : ℕ) (columns : List RoutePlan) (basis : List BasisEntry) → length columns ≡ count
    → codes "root wide " ++ (decimal count ++ (10 ∷ (joined_texts column_text columns ++ basis_text basis))) ≡ root_text (root.Wide columns basis)
wide_lines count columns basis many =
    subst (λ (n : ℕ). codes "root wide " ++ (decimal n ++ (10 ∷ (joined_texts column_text columns ++ basis_text basis))) ≡ root_text (root.Wide columns basis)) many (simp append_assoc)

pub reads-root : (g : Network) → Reads StandsUnlessLonger (root_at g) root_text (RootIs g) (RootLoose g) Anything
reads-root g =
    reads-record
    (parts-either (none_or_other g) (reads-choice 114 (codes "oot none" ++ 10 ∷ [])) (parts-none root.None)
    (parts-either (exact_or_wide g) (reads-choice 114 (codes "oot exact "))
    (parts-then (ranged greatest_weight (λ n. nat_le 1 n) (omega arith))
    (λ over. parts-behind 32 [] (parts-then (upto most_items (omega arith)) (λ count. parts-behind 10 [] (parts-last (shares_read count) (λ shares. root.Exact over shares))) (λ count shares rest few are any. refl)))
    (λ over more rest is fits any. refl))
    (parts-behind 114 (codes "oot wide ") (parts-then (upto most_items (omega arith))
    (λ count. parts-behind 10 [] (parts-then (columns_read count) (λ columns. parts-last (reads-basis g count) (λ basis. root.Wide columns basis)) (λ columns basis rest are is any. tt)))
    (λ count more rest few fits any. refl)))
    (λ p rest fits any. tt) (λ p rest fits any. other_behind (codes "root ") 101 119 (codes "xact ") _ (λ same. omega arith)))
    (λ none rest fits any. tt)
    (elim [
      | inl p ↦ λ rest fits any. other_behind (codes "root ") 110 101 (codes "one" ++ 10 ∷ []) _ (λ same. omega arith)
      | inr p ↦ λ rest fits any. other_behind (codes "root ") 110 119 (codes "one" ++ 10 ∷ []) _ (λ same. omega arith)
    ]))
    (record {
      parts = elim [
        | root.None ↦ λ is. (inl tt, tt, refl, λ rest any. tt)
        | root.Exact over shares ↦ λ is. (inr (inl (over, (length shares, shares))), (is.0, (is.1, (is.2, refl))), refl, λ rest any. tt)
        | root.Wide columns basis ↦ λ is. (inr (inr (length columns, (columns, basis))), (is.0, ((is.1, refl), is.2)), refl, λ rest any. tt)
      ];
      fits = elim [
        | inl none ↦ λ is. tt
        | inr (inl p) ↦ λ is. (is.0, omega (arith, is.1.1.1, is.1.0), is.1.1.0)
        | inr (inr p) ↦ λ is. (omega (arith, is.1.0.1, is.0), is.1.0.0, subst (λ (n : ℕ). AreRun (EntryIs g n) next_entry (customer_count g) [] p.1.1) (sym is.1.0.1) is.1.1)
      ];
      loose = elim [
        | inl none ↦ λ is. tt
        | inr (inl p) ↦ λ is. (is.0, omega (arith, loose_length ShareLoose p.1.0 p.1.1 is.1.1, is.1.0), own_length ShareLoose p.1.0 p.1.1 is.1.1)
        | inr (inr p) ↦ λ is. (omega (arith, loose_length ColumnFits p.0 p.1.0 is.1.0, is.0), own_length ColumnFits p.0 p.1.0 is.1.0, is.1.1)
      ];
      texts = elim [
        | inl none ↦ λ is. refl
        | inr (inl p) ↦ λ is. exact_lines p.0 p.1.0 p.1.1 (loose_length ShareLoose p.1.0 p.1.1 is.1.1)
        | inr (inr p) ↦ λ is. wide_lines p.0 p.1.0 p.1.1 (loose_length ColumnFits p.0 p.1.0 is.1.0)
      ];
    })
