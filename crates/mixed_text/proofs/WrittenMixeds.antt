-- What is written of a proof that fits is in its ranges.
use Rattle.std.proofs.Common.{ℕ, List, [], ◌∷◌, length, map, subst, arith}
use Rattle.std.specs.List.{All}
use Rattle.std.proofs.lemmas.List.{length-map}
use Rattle.std.proofs.lemmas.List.Elements.{All-head, All-tail, All-weaker}
use Rattle.ev_model.specs.Network.{IsNetwork, Network}
use Rattle.piece_fn.specs.declared.label.Label.{Label}
use Rattle.certificate_parts.specs.Ranges.{LabelFits, customer_count}
use Rattle.certificate_parts.specs.Written.{WrittenLabel, written_label}
use Rattle.certificate_parts.specs.WrittenRanges.{LabelIs}
use Rattle.certificate_parts.proofs.WrittenBasis.{basis_is, bound_is}
use Rattle.certificate_parts.proofs.WrittenParts.{all_map, weight_is}
use Rattle.certificate_parts.proofs.WrittenSets.{label_is}
use Rattle.mixed_model.specs.Kinds.{Agrees, AreKinds, first_of}
use Rattle.mixed_model.specs.Ranges.{MixedFits, RootFits, ShareFits}
use Rattle.mixed_model.specs.declared.proof.MixedProof.{MixedProof}
use Rattle.mixed_model.specs.declared.proof.MixedRoot.{MixedRoot}
use Rattle.mixed_model.specs.declared.proof.MixedRoot.TheVariants as root
use Rattle.mixed_model.specs.declared.proof.MixedShare.{MixedShare}
use Rattle.mixed_text.specs.MixedIn.{ListFits}
use Rattle.mixed_text.specs.Written.{written_labels, written_mixed, written_mixed_root}
use Rattle.mixed_text.specs.WrittenRanges.{LabelsAre, MixedIs, MixedRootIs, MixedShareIs, OneEach}
use Rattle.mixed_text.proofs.KindNumbers.{by_first, each_fits, first_is_network}

share_is : (count : ℕ) (x : MixedShare) → ShareFits count x → MixedShareIs count x
share_is count x fits = record { share = weight_is x.share fits.share; route = fits.route }

root_is : (count : ℕ) (g : Network) → IsNetwork g → (r : MixedRoot) → RootFits count (customer_count g) r → MixedRootIs count g (written_mixed_root g r)
root_is count g network root.None fits = tt
root_is count g network (root.Exact over shares) fits = (weight_is over fits.over_weight, fits.few, All-weaker (ShareFits count) (MixedShareIs count) (share_is count) shares fits.each)
root_is count g network (root.Wide columns basis) fits = (fits.few, fits.each, basis_is g network (length columns) fits.few basis fits.basis_fits)

-- the labels of each kind, by the customers of the first
labels_are : (first : Network) (kinds : List Network) (lists : List (List Label)) → All IsNetwork kinds → All (Agrees first) kinds → OneEach ListFits kinds lists → OneEach LabelsAre kinds (map (written_labels first) lists)
labels_are first [] [] networks agree fit = tt
labels_are first [] (labels ∷ lists) networks agree fit = absurd fit
labels_are first (g ∷ kinds) [] networks agree fit = absurd fit
labels_are first (g ∷ kinds) (labels ∷ lists) networks agree fit =
    let network = All-head IsNetwork g kinds networks in
    let few = fit.0.few in
    let own : LabelsAre g (written_labels g labels) = record {
      few = omega (arith, few, length-map labels (written_label g));
      each = all_map (written_label g) (LabelFits g) (LabelIs g) labels (label_is g network) fit.0.each;
    } in (
      subst (λ (ws : List WrittenLabel). LabelsAre g ws) (by_first first g (All-head (Agrees first) g kinds agree) labels) own,
      labels_are first kinds lists (All-tail IsNetwork g kinds networks) (All-tail (Agrees first) g kinds agree) fit.1,
    )

pub lists_fit : (kinds : List Network) (p : MixedProof) → MixedFits kinds p → OneEach ListFits kinds p.labels
lists_fit kinds p fits = each_fits kinds p.labels fits.one_list (λ kind known. let own = fits.labels kind known in record { few = own.few; each = own.each })

pub mixed_is : (kinds : List Network) → All IsNetwork kinds → AreKinds kinds → (p : MixedProof) → MixedFits kinds p → MixedIs kinds (written_mixed kinds p)
mixed_is kinds networks are p fits = record {
  bound = bound_is p.bound fits.bound;
  root_is = root_is (length kinds) (first_of kinds) (first_is_network kinds networks are) p.root fits.root_fits;
  weight = fits.weight;
  prices = fits.prices;
  one_price = fits.one_price;
  labels = labels_are (first_of kinds) kinds p.labels networks are.agree (lists_fit kinds p fits);
}
