-- The reader of what stands behind the first lines of a certificate reads exactly its text.
use Rattle.std.proofs.Common.{◌≡◌, ℕ, ◌^◌, ◌<◌, ◌≤◌, List, [], ◌∷◌, ◌++◌, decimal, codes, length, nat_le, refl, sym, subst, append_assoc, arith}
use Rattle.std.specs.List.{All}
use Rattle.ev_model.specs.Network.{Network, scaled_limit}
use Rattle.ev_text.specs.Readers.{so_many}
use Rattle.ev_text.specs.Texts.{AreLooseRun, StandsUnlessLonger, joined_texts}
use Rattle.ev_text.proofs.ReadingLaws.{Reads}
use Rattle.ev_text.proofs.RunLaws.{reads-so_many}
use Rattle.ev_text.specs.Numbers.{Keeping}
use Rattle.ev_text.proofs.Lines.{loose_length, own_length}
use Rattle.ev_text.proofs.Numbers.{Anything, ranged}
use Rattle.ev_text.proofs.Records.{parts-behind, parts-last, parts-own, parts-then, reads-record}
use Rattle.bound_certificate.specs.CertificateTexts.{body_text, line_text, section_text, sections_text}
use Rattle.certificate_parts.specs.Limits.{most_items}
use Rattle.bound_certificate.specs.Reading.{body_at, line_at, section_at, sections_at, tree_at}
use Rattle.bound_certificate.specs.Written.{WrittenSection}
use Rattle.bound_certificate.specs.declared.certificate.TreeLine.{TreeLine}
use Rattle.bound_certificate.specs.declared.certificate.TreeLine.TheVariants.{Split, Leaf}
use Rattle.bound_certificate.specs.WrittenRanges.{LineIs, LineLoose, SectionIs, SectionLoose, SectionsAre, SectionsLoose, TreeIs, TreeLoose, WrittenIs, WrittenLoose}
use Rattle.certificate_parts.proofs.BasisLines.{reads-bound}
use Rattle.bound_certificate.proofs.RootReading.{reads-root}
use Rattle.bound_certificate.proofs.SectionLines.{reads-section}
use Rattle.bound_certificate.proofs.TreeParts.{reads-tree_line}
use Rattle.bound_certificate.proofs.TreeReading.{reads-tree}

pub line_is_some : (line : TreeLine) → 1 ≤ length (line_text line)
line_is_some (Split i j) = omega arith
line_is_some (Leaf n) = omega arith

pub tree_read : (g : Network) (sections : ℕ) → Reads StandsUnlessLonger (tree_at (line_at g sections)) (joined_texts line_text) (TreeIs g sections) TreeLoose Anything
tree_read g sections = reads-tree (line_at g sections) line_text (LineIs g sections) LineLoose (reads-tree_line g sections) line_is_some (0, omega arith)

module _ (g : Network) (small_capacity : g.capacity < 10 ^ 64) (small_limit : scaled_limit g < 10 ^ 64) where
  many_sections : (count : ℕ) → Reads StandsUnlessLonger (so_many count (section_at g)) (joined_texts section_text) (λ sections. All (SectionIs g) sections × (length sections ≡ count)) (AreLooseRun (SectionLoose g) count) Anything
  many_sections count = reads-so_many StandsUnlessLonger (section_at g) section_text (SectionIs g) (SectionLoose g) Anything (reads-section g small_capacity small_limit) (λ s rest. tt) count

  same_texts : (count : ℕ) (sections : List WrittenSection) → length sections ≡ count → codes "sections " ++ (decimal count ++ (10 ∷ joined_texts section_text sections)) ≡ sections_text sections
  same_texts count sections many = subst (λ (n : ℕ). codes "sections " ++ (decimal n ++ (10 ∷ joined_texts section_text sections)) ≡ sections_text sections) many (simp append_assoc)

  sections_read : Reads StandsUnlessLonger (sections_at g) sections_text (SectionsAre g) (SectionsLoose g) Anything
  sections_read =
      reads-record
      (parts-behind 115 (codes "ections ") (parts-then (ranged most_items (λ n. nat_le 1 n) (omega arith)) (λ count. parts-behind 10 [] (parts-own (many_sections count))) (λ count sections rest is are any. refl)))
      (record {
        parts = λ sections are. ((length sections, sections), (are.0, (are.1, refl)), refl, λ rest any. tt);
        fits = λ p are. (subst (Keeping most_items (λ n. nat_le 1 n)) (sym are.1.1) are.0, are.1.0);
        loose = λ p are. (omega (arith, loose_length (SectionLoose g) p.0 p.1 are.1, are.0), own_length (SectionLoose g) p.0 p.1 are.1);
        texts = λ p are. same_texts p.0 p.1 (loose_length (SectionLoose g) p.0 p.1 are.1);
      })

  pub reads-body : Reads StandsUnlessLonger (body_at g) body_text (WrittenIs g) (WrittenLoose g) Anything
  reads-body =
      reads-record
      (parts-then reads-bound
      (λ bound. parts-then (reads-root g)
      (λ root_part. parts-then sections_read
      (λ sections. parts-last (tree_read g (length sections)) (λ tree. record { bound = bound; root = root_part; sections = sections; tree = tree }))
      (λ sections tree rest are is any. tt))
      (λ root_part more rest is fits any. tt))
      (λ bound more rest is fits any. tt))
      (record {
        parts = λ w is. ((w.bound, (w.root, (w.sections, w.tree))), (is.bound, (is.root_is, (is.sections, is.tree))), refl, λ rest any. tt);
        fits = λ p is. record { bound = is.0; root_is = is.1.0; sections = is.1.1.0; tree = is.1.1.1 };
        loose = λ p is. record { bound = is.0; root_is = is.1.0; sections = is.1.1.0; tree = is.1.1.1 };
        texts = λ p is. refl;
      })
