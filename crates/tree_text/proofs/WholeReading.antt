-- Reading the text of a tree as a whole.
use Rattle.std.proofs.Common.{◌≡◌, ◌≢◌, ◌∙◌, ℕ, ◌≤◌, false, List, [], ◌∷◌, ◌++◌, Option, length, Ok, Err, sym, ap, codes}
use Rattle.ev_model.specs.Network.{Network}
use Rattle.ev_text.specs.Readers.{whole_text}
use Rattle.ev_text.specs.Scans.{and_then, rest_of, word_at}
use Rattle.ev_text.specs.declared.TextFault.{TextFault}
use Rattle.ev_text.specs.declared.TextFault.TheVariants.{Word}
use Rattle.ev_text.proofs.WholeLaws.{whole_text-end, whole_text-more}
use Rattle.certificate_parts.specs.Limits.{most_bytes}
use Rattle.certificate_parts.specs.Reading.{bound_at}
use Rattle.certificate_parts.specs.Refusals.{as_refusal, or_refused}
use Rattle.certificate_parts.specs.declared.cert_text.CertText.{CertText}
use Rattle.certificate_parts.proofs.ItemLoops.{refused_since}
use Rattle.certificate_parts.proofs.TextLaws.{read_on}
use Rattle.tree_text.specs.Reading.{nodes_at, tree_at}
use Rattle.tree_text.specs.TreeIn.{has_other_version, tree_in}
use Rattle.tree_text.specs.Written.{WrittenTree}

-- the nodes behind the bound are none
pub no_nodes : (g : Network) (s t u : List ℕ × ℕ) (bound : Option ℕ) (refusal : CertText) → word_at (codes "evroute near tree 1" ++ 10 ∷ []) s ≡ Ok t → bound_at t ≡ Ok (bound, u) → or_refused (nodes_at g u) ≡ Err refusal → or_refused (tree_at g s) ≡ Err refusal
no_nodes g s t u bound refusal word first is =
    let found = refused_since (nodes_at g u) refusal is in
    let none : nodes_at g u ≡ Err found.0 = found.1 in
    rw (word, first, none) (ap (λ r. Err r) found.2)

module _ (g : Network) (bytes : List ℕ) (within : length bytes ≤ most_bytes) (own : has_other_version bytes ≡ false) (s : List ℕ × ℕ) (start : s ≡ (bytes, 0)) where
  pub all_is_read : (t : List ℕ × ℕ) (w : WrittenTree) → tree_at g s ≡ Ok (w, t) → rest_of t ≡ [] → tree_in g bytes ≡ Ok w
  all_is_read t w found none =
      read_on 101 (codes "vroute near tree ") 1 (tree_at g) bytes within own
      ∙ ap (λ r. or_refused (and_then r whole_text)) (ap (tree_at g) (sym start) ∙ found)
      ∙ ap or_refused (whole_text-end w t none)

  pub fault_inside : (refusal : CertText) → or_refused (tree_at g s) ≡ Err refusal → tree_in g bytes ≡ Err refusal
  fault_inside refusal is =
      let found = refused_since (tree_at g s) refusal is in
      read_on 101 (codes "vroute near tree ") 1 (tree_at g) bytes within own
      ∙ ap (λ r. or_refused (and_then r whole_text)) (ap (tree_at g) (sym start) ∙ found.1)
      ∙ ap (λ r. Err r) found.2

  pub fault_behind : (t : List ℕ × ℕ) (w : WrittenTree) (fault : TextFault) → tree_at g s ≡ Ok (w, t) → (rest_of t ≢ []) × (fault ≡ Word t.1) → tree_in g bytes ≡ Err (as_refusal fault)
  fault_behind t w fault found (some, is) =
      read_on 101 (codes "vroute near tree ") 1 (tree_at g) bytes within own
      ∙ ap (λ r. or_refused (and_then r whole_text)) (ap (tree_at g) (sym start) ∙ found)
      ∙ ap or_refused (whole_text-more w t some)
      ∙ ap (λ f. Err (as_refusal f)) (sym is)
