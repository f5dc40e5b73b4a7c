-- Reading the section of a leaf.
use Rattle.std.proofs.Common.{◌≡◌, ℕ, ◌≤◌, ℤ, List, Ok, Err, length, refl, sym, ap, arith}
use Rattle.std.specs.Prelude.{unsigned_abs}
use Rattle.std.specs.List.{All}
use Rattle.ev_model.specs.Network.{Network}
use Rattle.ev_text.specs.Readers.{signed_at, so_many}
use Rattle.certificate_parts.specs.Limits.{greatest_bound}
use Rattle.certificate_parts.specs.Ranges.{IsPrice, customer_count}
use Rattle.certificate_parts.specs.Reading.{prices_at}
use Rattle.certificate_parts.specs.Refusals.{or_refused}
use Rattle.certificate_parts.specs.declared.cert_text.CertText.{CertText}
use Rattle.certificate_parts.proofs.ItemLoops.{refused_since}
use Rattle.near_text.specs.Reading.{nears_at}
use Rattle.near_tree.specs.declared.proof.LeafSection.{LeafSection}
use Rattle.near_tree.specs.declared.proof.SectionLabel.{SectionLabel}
use Rattle.tree_text.specs.Reading.{entry_at, section_label_at, section_lines_at}
use Rattle.tree_text.specs.Written.{WrittenSectionLabel}
use Rattle.tree_text.proofs.LabelReading.{reads-entries, signed}

abbrev pub section_from : ℕ → List ℤ → List (List ℕ) → List ℤ → List SectionLabel → LeafSection
section_from weight prices sets entry_prices labels = record { weight = weight; prices = prices; sets = sets; entry_prices = entry_prices; labels = labels }

-- a section is the same by each of its parts
pub same_section : (weight : ℕ) (prices prices' : List ℤ) (sets sets' : List (List ℕ)) (entry_prices entry_prices' : List ℤ) (labels labels' : List SectionLabel) → prices' ≡ prices → sets' ≡ sets → entry_prices' ≡ entry_prices → labels' ≡ labels
    → section_from weight prices sets entry_prices labels ≡ section_from weight prices' sets' entry_prices' labels'
same_section weight prices prices' sets sets' entry_prices entry_prices' labels labels' a b c d = λ i. section_from weight (sym a i) (sym b i) (sym c i) (sym d i)

-- what is earned is in its range
pub earned_small : (s t : List ℕ × ℕ) (earned : ℤ) → signed_at greatest_bound s ≡ Ok (earned, t) → unsigned_abs earned ≤ greatest_bound
earned_small s t earned is = ((signed greatest_bound (omega arith) (omega arith)).standing s t earned is).0

pub entry_prices_are : (count : ℕ) (s t : List ℕ × ℕ) (prices : List ℤ) → so_many count entry_at s ≡ Ok (prices, t) → All IsPrice prices × (length prices ≡ count)
entry_prices_are count s t prices is = ((reads-entries count).standing s t prices is).0

module _ (g : Network) (entries weight count : ℕ) (s : List ℕ × ℕ) where
  pub no_prices : (refusal : CertText) → or_refused (prices_at g s) ≡ Err refusal → or_refused (section_lines_at g entries weight count s) ≡ Err refusal
  no_prices refusal is =
      let found = refused_since (prices_at g s) refusal is in
      let none : prices_at g s ≡ Err found.0 = found.1 in
      rw none (ap (λ r. Err r) found.2)

  module _ (t : List ℕ × ℕ) (prices : List ℤ) (first : prices_at g s ≡ Ok (prices, t)) where
    pub no_sets : (refusal : CertText) → or_refused (nears_at g (customer_count g) 0 t) ≡ Err refusal → or_refused (section_lines_at g entries weight count s) ≡ Err refusal
    no_sets refusal is =
        let found = refused_since (nears_at g (customer_count g) 0 t) refusal is in
        let none : nears_at g (customer_count g) 0 t ≡ Err found.0 = found.1 in
        rw (first, none) (ap (λ r. Err r) found.2)

    module _ (u : List ℕ × ℕ) (sets : List (List ℕ)) (second : nears_at g (customer_count g) 0 t ≡ Ok (sets, u)) where
      pub no_entry_prices : (refusal : CertText) → or_refused (so_many entries entry_at u) ≡ Err refusal → or_refused (section_lines_at g entries weight count s) ≡ Err refusal
      no_entry_prices refusal is =
          let found = refused_since (so_many entries entry_at u) refusal is in
          let none : so_many entries entry_at u ≡ Err found.0 = found.1 in
          rw (first, second, none) (ap (λ r. Err r) found.2)

      module _ (v : List ℕ × ℕ) (entry_prices : List ℤ) (third : so_many entries entry_at u ≡ Ok (entry_prices, v)) where
        pub no_labels : (refusal : CertText) → or_refused (so_many count (section_label_at g) v) ≡ Err refusal → or_refused (section_lines_at g entries weight count s) ≡ Err refusal
        no_labels refusal is =
            let found = refused_since (so_many count (section_label_at g) v) refusal is in
            let none : so_many count (section_label_at g) v ≡ Err found.0 = found.1 in
            rw (first, second, third, none) (ap (λ r. Err r) found.2)

        pub lines_are_read : (w : List ℕ × ℕ) (labels : List WrittenSectionLabel) → so_many count (section_label_at g) v ≡ Ok (labels, w)
            → section_lines_at g entries weight count s ≡ Ok (record { weight = weight; prices = prices; sets = sets; entry_prices = entry_prices; labels = labels }, w)
        lines_are_read w labels is = rw (first, second, third, is) refl
