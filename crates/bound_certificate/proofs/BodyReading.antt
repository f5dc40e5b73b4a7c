-- Reading the text of a certificate as a whole.
use Rattle.std.proofs.Common.{◌≡◌, ◌≢◌, ◌∙◌, ℕ, zero, suc, ◌≤◌, false, List, [], ◌∷◌, Option, None, Some, IfSome, length, map, Result, Ok, Err, refl, sym, ap, codes}
use Rattle.ev_model.specs.Network.{Network}
use Rattle.ev_text.specs.Readers.{whole_text}
use Rattle.ev_text.specs.Scans.{and_then, rest_of}
use Rattle.ev_text.specs.declared.TextFault.{TextFault}
use Rattle.ev_text.specs.declared.TextFault.TheVariants.{Word}
use Rattle.ev_text.proofs.WholeLaws.{whole_text-end, whole_text-more}
use Rattle.certificate_parts.specs.Refusals.{as_refusal, or_refused}
use Rattle.bound_certificate.specs.CertificateIn.{certificate_in, has_other_version, own_version}
use Rattle.certificate_parts.specs.Limits.{greatest_bound, most_bytes}
use Rattle.certificate_parts.specs.Reading.{bound_at}
use Rattle.bound_certificate.specs.Reading.{body_at, certificate_at, line_at, root_at, sections_at, tree_at}
use Rattle.bound_certificate.specs.Trees.{Closes, IsWholeTree}
use Rattle.bound_certificate.specs.Written.{Written, WrittenSection, written, written_line}
use Rattle.certificate_parts.specs.WrittenRanges.{BoundIs}
use Rattle.bound_certificate.specs.declared.certificate.Root.{Root}
use Rattle.bound_certificate.specs.declared.certificate.Section.{Section}
use Rattle.bound_certificate.specs.declared.certificate.TreeLine.{TreeLine}
use Rattle.bound_certificate.specs.declared.certificate.TreeLine.TheVariants.{Split, Leaf}
use Rattle.certificate_parts.specs.declared.cert_text.CertText.{CertText}
use Rattle.certificate_parts.proofs.TextLaws.{read_on}
use Rattle.certificate_parts.proofs.ItemLoops.{refused_since}
use Rattle.bound_certificate.proofs.CertificateReading.{tree_read}
use Rattle.certificate_parts.proofs.BasisLines.{reads-bound}
use Rattle.bound_certificate.proofs.TreeLines.{whole_where_closed}

pub no_root_part : (g : Network) (s t : List ℕ × ℕ) (bound : Option ℕ) (refusal : CertText) → bound_at s ≡ Ok (bound, t) → or_refused (root_at g t) ≡ Err refusal → or_refused (body_at g s) ≡ Err refusal
no_root_part g s t bound refusal first is =
    let found = refused_since (root_at g t) refusal is in
    let none : root_at g t ≡ Err found.0 = found.1 in
    rw (first, none) (ap (λ r. Err r) found.2)

pub no_sections : (g : Network) (s t u : List ℕ × ℕ) (bound : Option ℕ) (root_part : Root) (refusal : CertText) → bound_at s ≡ Ok (bound, t) → root_at g t ≡ Ok (root_part, u) → or_refused (sections_at g u) ≡ Err refusal → or_refused (body_at g s) ≡ Err refusal
no_sections g s t u bound root_part refusal first second is =
    let found = refused_since (sections_at g u) refusal is in
    let none : sections_at g u ≡ Err found.0 = found.1 in
    rw (first, second, none) (ap (λ r. Err r) found.2)

pub as_written : (g : Network) (bound : Option ℕ) (root_part : Root) (xs ys : List Section) (ls ms : List TreeLine) (w : List ℕ × ℕ) (r : Result (Written × (List ℕ × ℕ)) TextFault) → ys ≡ xs → ms ≡ ls
    → r ≡ Ok (written g (record { bound = bound; root = root_part; sections = xs; tree = ls }), w) → r ≡ Ok (written g (record { bound = bound; root = root_part; sections = ys; tree = ms }), w)
as_written g bound root_part xs ys ls ms w r same also is =
    is ∙ (λ i. Ok (written g (record { bound = bound; root = root_part; sections = sym same i; tree = sym also i }), w))

module _ (g : Network) (s t u v : List ℕ × ℕ) (bound : Option ℕ) (root_part : Root) (sections : List WrittenSection) (n : ℕ) (first : bound_at s ≡ Ok (bound, t)) (second : root_at g t ≡ Ok (root_part, u)) (third : sections_at g u ≡ Ok (sections, v))
    (count : n ≡ length sections) where
  -- the tree is none
  pub no_tree : (refusal : CertText) → or_refused (tree_at (line_at g n) v) ≡ Err refusal → or_refused (body_at g s) ≡ Err refusal
  no_tree refusal is =
      let found = refused_since (tree_at (line_at g n) v) refusal is in
      let none : tree_at (line_at g (length sections)) v ≡ Err found.0 = ap (λ k. tree_at (line_at g k) v) (sym count) ∙ found.1 in
      rw (first, second, third, none) (ap (λ r. Err r) found.2)

  pub body_is_read : (w : List ℕ × ℕ) (tree : List TreeLine) → tree_at (line_at g n) v ≡ Ok (tree, w) → body_at g s ≡ Ok (record { bound = bound; root = root_part; sections = sections; tree = tree }, w)
  body_is_read w tree is =
      let last : tree_at (line_at g (length sections)) v ≡ Ok (tree, w) = ap (λ k. tree_at (line_at g k) v) (sym count) ∙ is in
      rw (first, second, third, last) refl

pub bound_in_range : (s t : List ℕ × ℕ) (bound : Option ℕ) → bound_at s ≡ Ok (bound, t) → IfSome bound (λ b. b ≤ greatest_bound)
bound_in_range s t bound is = at bound (reads-bound.standing s t bound is).0
  where
    at : (b : Option ℕ) → BoundIs b → IfSome b (λ n. n ≤ greatest_bound)
    at None is = tt
    at (Some n) is = is

closes_unwritten : (g : Network) (trees : ℕ) (lines : List TreeLine) → Closes trees (map (written_line g) lines) → Closes trees lines
closes_unwritten g zero [] closes = tt
closes_unwritten g zero (line ∷ lines) closes = absurd closes
closes_unwritten g (suc trees) [] closes = absurd closes
closes_unwritten g (suc trees) (Leaf n ∷ lines) closes = closes_unwritten g trees lines closes
closes_unwritten g (suc trees) (Split i j ∷ lines) closes = closes_unwritten g (suc (suc trees)) lines closes

pub tree_is_whole : (g : Network) (sections : ℕ) (s t : List ℕ × ℕ) (lines : List TreeLine) → tree_at (line_at g sections) s ≡ Ok (map (written_line g) lines, t) → IsWholeTree lines
tree_is_whole g sections s t lines is =
    let are = ((tree_read g sections).standing s t (map (written_line g) lines) is).0 in
    (whole_where_closed lines).0 (closes_unwritten g 1 lines are.1)

-- the whole text

module _ (g : Network) (bytes : List ℕ) (within : length bytes ≤ most_bytes) (own : has_other_version g bytes ≡ false) (s : List ℕ × ℕ) (start : s ≡ (bytes, 0)) where
  pub all_is_read : (t : List ℕ × ℕ) (w : Written) → certificate_at g s ≡ Ok (w, t) → rest_of t ≡ [] → certificate_in g bytes ≡ Ok w
  all_is_read t w found none =
      read_on 101 (codes "vroute certificate ") (own_version g) (certificate_at g) bytes within own
      ∙ ap (λ r. or_refused (and_then r whole_text)) (ap (certificate_at g) (sym start) ∙ found)
      ∙ ap or_refused (whole_text-end w t none)

  pub fault_inside : (refusal : CertText) → or_refused (certificate_at g s) ≡ Err refusal → certificate_in g bytes ≡ Err refusal
  fault_inside refusal is =
      let found = refused_since (certificate_at g s) refusal is in
      read_on 101 (codes "vroute certificate ") (own_version g) (certificate_at g) bytes within own
      ∙ ap (λ r. or_refused (and_then r whole_text)) (ap (certificate_at g) (sym start) ∙ found.1)
      ∙ ap (λ r. Err r) found.2

  pub fault_behind : (t : List ℕ × ℕ) (w : Written) (fault : TextFault) → certificate_at g s ≡ Ok (w, t) → (rest_of t ≢ []) × (fault ≡ Word t.1) → certificate_in g bytes ≡ Err (as_refusal fault)
  fault_behind t w fault found (some, is) =
      read_on 101 (codes "vroute certificate ") (own_version g) (certificate_at g) bytes within own
      ∙ ap (λ r. or_refused (and_then r whole_text)) (ap (certificate_at g) (sym start) ∙ found)
      ∙ ap or_refused (whole_text-more w t some)
      ∙ ap (λ f. Err (as_refusal f)) (sym is)
