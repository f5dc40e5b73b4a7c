-- The lines of a section, written part by part.
use Rattle.std.proofs.Common.{◌≡◌, ◌∙◌, ℕ, List, ◌++◌, length, map, sym, ap, append_assoc}
use Rattle.std.proofs.lemmas.List.{length-map}
use Rattle.ev_model.specs.Network.{Network}
use Rattle.ev_text.specs.Texts.{joined_texts}
use Rattle.certificate_parts.specs.Texts.{label_text, prices_text}
use Rattle.bound_certificate.specs.CertificateTexts.{pair_text, section_head, section_text}
use Rattle.certificate_parts.specs.Written.{written_label}
use Rattle.bound_certificate.specs.Written.{written_pairs, written_section}
use Rattle.bound_certificate.specs.declared.certificate.Section.{Section}

four_parts : (front a b c d : List ℕ) → (((front ++ a) ++ b) ++ c) ++ d ≡ front ++ (a ++ (b ++ (c ++ d)))
four_parts front a b c d =
    append_assoc ((front ++ a) ++ b) c d ∙ append_assoc (front ++ a) b (c ++ d) ∙ append_assoc front a (b ++ (c ++ d))

pub section_written : (g : Network) (s : Section) (pairs : List (ℕ × ℕ)) (n m : ℕ) (front head prices with_pairs whole : List ℕ) → pairs ≡ written_pairs g s.pairs
    → n ≡ length pairs → m ≡ length s.labels
    → head ≡ front ++ section_head s.weight n m → prices ≡ head ++ prices_text s.prices → with_pairs ≡ prices ++ joined_texts pair_text pairs
    → whole ≡ with_pairs ++ joined_texts label_text (map (written_label g) s.labels) → whole ≡ front ++ section_text (written_section g s)
section_written g s pairs n m front head prices with_pairs whole are n_is m_is first second third fourth =
    let labels = joined_texts label_text (map (written_label g) s.labels) in
    let count : m ≡ length (map (written_label g) s.labels) = m_is ∙ sym (length-map s.labels (written_label g)) in
    let number : n ≡ length (written_pairs g s.pairs) = n_is ∙ ap (λ ps. length ps) are in
    fourth
    ∙ ap (λ xs. xs ++ labels) (third ∙ ap (λ xs. xs ++ joined_texts pair_text pairs) (second ∙ ap (λ xs. xs ++ prices_text s.prices) first))
    ∙ four_parts front (section_head s.weight n m) (prices_text s.prices) (joined_texts pair_text pairs) labels
    ∙ (λ i. front ++ (section_head s.weight (number i) (count i) ++ (prices_text s.prices ++ (joined_texts pair_text (are i) ++ labels))))
