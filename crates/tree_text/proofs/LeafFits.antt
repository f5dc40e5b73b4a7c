-- Reading a leaf: its section is as it should be where so much is counted.
use Rattle.std.proofs.Common.{◌≡◌, ◌≢◌, ◌∙◌, ℕ, ◌<◌, ◌≤◌, ℤ, List, None, Some, false, Ok, Err, [], ◌∷◌, ◌++◌, codes, length, map, nat_lt, refl, sym, ap, arith}
use Rattle.std.proofs.lemmas.Bool.{ltb-true}
use Rattle.std.proofs.lemmas.List.{length-map}
use Rattle.std.proofs.lemmas.List.Elements.{All-contains}
use Rattle.ev_model.specs.Network.{Network, node_count}
use Rattle.ev_text.specs.Readers.{answer, each_from, signed_at, then_reads}
use Rattle.ev_text.proofs.Numbers.{ranged}
use Rattle.ev_text.proofs.Results.{Ok-injective, and_then-ok}
use Rattle.ev_text.specs.Scans.{word_at}
use Rattle.fleet_model.specs.Labels.{IsLevel}
use Rattle.fleet_model.proofs.Numbers.{counted}
use Rattle.route_plan.specs.Limits.{greatest_number}
use Rattle.certificate_parts.specs.Limits.{greatest_bound}
use Rattle.certificate_parts.specs.Reading.{customer_at, node_where, points_at, set_at, set_behind}
use Rattle.certificate_parts.specs.Refusals.{or_refused}
use Rattle.certificate_parts.specs.declared.cert_text.CertText.{CertText}
use Rattle.certificate_parts.proofs.ItemLoops.{refused_since}
use Rattle.certificate_parts.proofs.WrittenParts.{all_map}
use Rattle.near_proof.proofs.Fits.{label_within_full}
use Rattle.near_proof.specs.declared.proof.NearLabel.{NearLabel}
use Rattle.near_tree.specs.Preorder.{at_leaf, leaf_label, section_of}
use Rattle.near_tree.specs.Ranges.{LeafSectionFits, SectionLabelFits}
use Rattle.near_tree.specs.Sections.{LeafLabel}
use Rattle.near_tree.specs.declared.proof.LeafSection.{LeafSection}
use Rattle.near_tree.specs.declared.proof.SectionLabel.{SectionLabel}
use Rattle.tree_text.specs.Reading.{last_at, leaf_at, section_at, section_label_at}
use Rattle.tree_text.specs.Standing.{IsWay, StandsAt, all_written, written_counted}
use Rattle.tree_text.specs.Ways.{as_counted, counted_in}
use Rattle.tree_text.specs.Written.{WrittenLast, WrittenSection, is_station, written_leaf}
use Rattle.tree_text.specs.declared.ways.CountedSet.{CountedSet}

pub lengths : (g : Network) (cs : List CountedSet) → length (all_written g (counted_in cs)) ≡ length cs
lengths g cs = length-map (counted_in cs) (written_counted g) ∙ length-map cs as_counted

pub kept_length : (cs : List CountedSet) → length (counted_in cs) ≡ length cs
kept_length cs = length-map cs as_counted

module _ (g : Network) where
  abbrev IsWithinFull : LeafLabel → Type 0
  IsWithinFull l = (y : ℕ) → IsLevel l.label y → y ≤ g.capacity

  within : (l : SectionLabel) → SectionLabelFits g l → IsWithinFull (leaf_label l)
  within l fits y level =
      let n : NearLabel = record { node = l.node; memory = l.memory; count = 0; earned = 0; value = l.value } in
      label_within_full g n (record { node = fits.node; memory = fits.memory; count = omega arith; earned = omega arith; valid = fits.valid; points = fits.points }) y level

  pub leaf_stands : (cs : List CountedSet) (s : LeafSection) → IsWay g (counted_in cs) → LeafSectionFits g s → length s.entry_prices ≡ length cs → StandsAt g (counted_in cs) (at_leaf (section_of s))
  leaf_stands cs s way fits many = (
    record {
      one_price = fits.one_price ∙ counted g;
      one_set = fits.sets.one_set ∙ counted g;
      one_entry_price = many ∙ sym (length-map cs as_counted);
      full = λ l y there level. All-contains IsWithinFull (map leaf_label s.labels) l (all_map leaf_label (SectionLabelFits g) IsWithinFull s.labels within fits.labels) there y level;
    },
    way.few,
  )

  pub no_section : (cs : List CountedSet) (n : ℕ) (s t : List ℕ × ℕ) (refusal : CertText) → n ≡ length cs → word_at (codes "leaf" ++ 10 ∷ []) s ≡ Ok t → or_refused (section_at g n t) ≡ Err refusal → or_refused (leaf_at g (all_written g (counted_in cs)) s) ≡ Err refusal
  no_section cs n s t refusal same word refused =
      let found = refused_since (section_at g n t) refusal refused in
      let none : section_at g (length (all_written g (counted_in cs))) t ≡ Err found.0 = ap (λ k. section_at g k t) (lengths g cs ∙ sym same) ∙ found.1 in
      rw (word, none) (ap (λ r. Err r) found.2)

  pub leaf_is_read : (cs : List CountedSet) (n : ℕ) (s t u : List ℕ × ℕ) (w : WrittenSection) → n ≡ length cs → word_at (codes "leaf" ++ 10 ∷ []) s ≡ Ok t → section_at g n t ≡ Ok (w, u) → leaf_at g (all_written g (counted_in cs)) s ≡ Ok (written_leaf w, u)
  leaf_is_read cs n s t u w same word is =
      let found : section_at g (length (all_written g (counted_in cs))) t ≡ Ok (w, u) = ap (λ k. section_at g k t) (lengths g cs ∙ sym same) ∙ is in
      rw (word, found) refl

  -- the points of a label are none
  pub no_points : (s t u v w x y z : List ℕ × ℕ) (node : ℕ) (last : WrittenLast) (memory : List ℕ) (earned : ℤ) (refusal : CertText) → word_at (codes "label ") s ≡ Ok t → node_where (λ n. nat_lt n (node_count g)) t ≡ Ok (node, u)
      → word_at (codes " ") u ≡ Ok v → last_at g (is_station g node) v ≡ Ok (last, w) → set_at g 32 w ≡ Ok (memory, x) → signed_at greatest_bound x ≡ Ok (earned, y) → word_at (codes " ") y ≡ Ok z → or_refused (points_at g z) ≡ Err refusal
      → or_refused (section_label_at g s) ≡ Err refusal
  no_points s t u v w x y z node last memory earned refusal a b c d e f h refused =
      let found = refused_since (points_at g z) refusal refused in
      let none : points_at g z ≡ Err found.0 = found.1 in
      rw (a, b, c, d, e, f, h, none) (ap (λ r. Err r) found.2)

  -- a set that was read is one
  pub some_are_read : (mark : ℕ) (s t : List ℕ × ℕ) (nodes : List ℕ) → set_behind g mark false s ≡ Ok (nodes, t) → nodes ≢ []
  some_are_read mark s t nodes is none =
      let first = and_then-ok (customer_at g None s) (λ found. then_reads (each_from (codes ",") (mark ∷ []) (customer_at g) (λ before node. Some node) (Some found.0)) (λ others. answer (found.0 ∷ others)) found.1) (nodes, t) is in
      let rest = and_then-ok (each_from (codes ",") (mark ∷ []) (customer_at g) (λ before node. Some node) (Some first.0.0) first.0.1) (λ found. answer (first.0.0 ∷ found.0) found.1) (nodes, t) first.2 in
      no_nodes first.0.0 rest.0.0 (ap (λ (p : List ℕ × (List ℕ × ℕ)). p.0) (Ok-injective (first.0.0 ∷ rest.0.0, rest.0.1) (nodes, t) rest.2) ∙ none)
    where
      no_nodes : (x : ℕ) (xs : List ℕ) → x ∷ xs ≡ [] → ⊥
      no_nodes x xs same = cc

  pub node_known : (s t : List ℕ × ℕ) (node : ℕ) → node_where (λ n. nat_lt n (node_count g)) s ≡ Ok (node, t) → node < node_count g
  node_known s t node is = ltb-true node (node_count g) ((ranged greatest_number (λ n. nat_lt n (node_count g)) (omega arith)).standing s t node is).0.1
