-- What is written of a proof tells it.
use Rattle.std.proofs.Common.{◌≡◌, ◌∙◌, ℕ, List, [], ◌∷◌, length, map, refl, sym, ap, ap₂, subst}
use Rattle.std.specs.List.{All}
use Rattle.std.proofs.lemmas.List.Elements.{All-head, All-tail}
use Rattle.ev_model.specs.Network.{Network}
use Rattle.piece_fn.specs.declared.label.Label.{Label}
use Rattle.certificate_parts.specs.Ranges.{EntryFits, HasSet, LabelFits, customer_count}
use Rattle.certificate_parts.specs.Written.{written_entry, written_label}
use Rattle.certificate_parts.specs.declared.entry.BasisEntry.{BasisEntry}
use Rattle.certificate_parts.proofs.Chosen.{split_same}
use Rattle.certificate_parts.proofs.OneWritten.{LabelIs, one_entry, one_label, same_items}
use Rattle.mixed_model.specs.Kinds.{Agrees, AreKinds, first_of}
use Rattle.mixed_model.specs.Ranges.{MixedFits, RootFits}
use Rattle.mixed_model.specs.declared.proof.MixedProof.{MixedProof}
use Rattle.mixed_model.specs.declared.proof.MixedRoot.{MixedRoot}
use Rattle.mixed_model.specs.declared.proof.MixedRoot.TheVariants as root
use Rattle.mixed_model.specs.declared.proof.MixedRoute.{MixedRoute}
use Rattle.mixed_text.specs.MixedIn.{HaveSets, ListFits}
use Rattle.mixed_text.specs.Written.{WrittenMixed, written_labels, written_mixed, written_mixed_root}
use Rattle.mixed_text.specs.WrittenRanges.{OneEach}
use Rattle.mixed_text.proofs.KindNumbers.{by_first}
use Rattle.mixed_text.proofs.WholeReading.{proof_of}
use Rattle.mixed_text.proofs.WrittenMixeds.{lists_fit}
use Rattle.mixed_text.proofs.TextParts.{all_both}

abbrev Kept : List Label → Type 0
Kept labels = All HasSet labels

module _ (first : Network) where
  one_list : (g : Network) → Agrees first g → (xs ys : List Label) → ListFits g xs → ListFits g ys → Kept xs → Kept ys → written_labels first xs ≡ written_labels first ys → xs ≡ ys
  one_list g agree xs ys fits fit kept keeps same =
      same_items (written_label g) (LabelIs g) (one_label g) xs ys (all_both (LabelFits g) HasSet xs fits.each kept) (all_both (LabelFits g) HasSet ys fit.each keeps)
      (by_first first g agree xs ∙ same ∙ sym (by_first first g agree ys))

  one_lists : (kinds : List Network) (xs ys : List (List Label)) → All (Agrees first) kinds → OneEach ListFits kinds xs → OneEach ListFits kinds ys → HaveSets xs → HaveSets ys
      → map (written_labels first) xs ≡ map (written_labels first) ys → xs ≡ ys
  one_lists [] [] [] agree fits fit kept keeps same = refl
  one_lists [] [] (y ∷ ys) agree fits fit kept keeps same = absurd fit
  one_lists [] (x ∷ xs) ys agree fits fit kept keeps same = absurd fits
  one_lists (g ∷ kinds) [] ys agree fits fit kept keeps same = absurd fits
  one_lists (g ∷ kinds) (x ∷ xs) [] agree fits fit kept keeps same = absurd fit
  one_lists (g ∷ kinds) (x ∷ xs) (y ∷ ys) agree fits fit kept keeps same =
      let parts = split_same (written_labels first x) (written_labels first y) (map (written_labels first) xs) (map (written_labels first) ys) same in
      ap₂ (λ (z : List Label) (zs : List (List Label)). z ∷ zs)
      (one_list g (All-head (Agrees first) g kinds agree) x y fits.0 fit.0 (All-head Kept x xs kept) (All-head Kept y ys keeps) parts.0)
      (one_lists kinds xs ys (All-tail (Agrees first) g kinds agree) fits.1 fit.1 (All-tail Kept x xs kept) (All-tail Kept y ys keeps) parts.1)

columns_of : List MixedRoute → MixedRoot → List MixedRoute
columns_of d root.None = d
columns_of d (root.Exact over shares) = d
columns_of d (root.Wide columns basis) = columns

basis_of : List BasisEntry → MixedRoot → List BasisEntry
basis_of d root.None = d
basis_of d (root.Exact over shares) = d
basis_of d (root.Wide columns basis) = basis

one_root : (count : ℕ) (g : Network) (r s : MixedRoot) → RootFits count (customer_count g) r → RootFits count (customer_count g) s → written_mixed_root g r ≡ written_mixed_root g s → r ≡ s
unfolding columns_of basis_of
one_root count g root.None root.None fits fit same = refl
one_root count g (root.Exact over shares) (root.Exact under others) fits fit same = same
one_root count g (root.Wide columns basis) (root.Wide others other) fits fit same =
    let cols : columns ≡ others = ap (columns_of []) same in
    let entries : map (written_entry g) basis ≡ map (written_entry g) other = ap (basis_of []) same in
    let second = subst (λ (cs : List MixedRoute). All (EntryFits (customer_count g) (length cs)) other) (sym cols) fit.basis_fits.entries in
    ap₂ (λ (cs : List MixedRoute) (b : List BasisEntry). root.Wide cs b) cols
    (same_items (written_entry g) (EntryFits (customer_count g) (length columns)) (one_entry g (length columns)) basis other fits.basis_fits.entries second entries)
one_root count g root.None (root.Exact over shares) fits fit same = absurd cc
one_root count g root.None (root.Wide columns basis) fits fit same = absurd cc
one_root count g (root.Exact over shares) root.None fits fit same = absurd cc
one_root count g (root.Exact over shares) (root.Wide columns basis) fits fit same = absurd cc
one_root count g (root.Wide columns basis) root.None fits fit same = absurd cc
one_root count g (root.Wide columns basis) (root.Exact over shares) fits fit same = absurd cc

pub one_written : (kinds : List Network) → AreKinds kinds → (p q : MixedProof) → MixedFits kinds p → MixedFits kinds q → HaveSets p.labels → HaveSets q.labels → written_mixed kinds p ≡ written_mixed kinds q → p ≡ q
one_written kinds are p q fits fit kept keeps same =
    let bound : p.bound ≡ q.bound = ap (λ (w : WrittenMixed). w.bound) same in
    let weight : p.weight ≡ q.weight = ap (λ (w : WrittenMixed). w.weight) same in
    let prices : p.prices ≡ q.prices = ap (λ (w : WrittenMixed). w.prices) same in
    let labels : p.labels ≡ q.labels = one_lists (first_of kinds) kinds p.labels q.labels are.agree (lists_fit kinds p fits) (lists_fit kinds q fit) kept keeps (ap (λ (w : WrittenMixed). w.labels) same) in
    let roots : p.root ≡ q.root = one_root (length kinds) (first_of kinds) p.root q.root fits.root_fits fit.root_fits (ap (λ (w : WrittenMixed). w.root) same) in
    λ i. proof_of (bound i) (weight i) (prices i) (labels i) (roots i)
