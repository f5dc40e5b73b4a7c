-- The labels of each kind, in their ranges, are a section of its network.
use Rattle.std.proofs.Common.{◌∙◌, ℕ, ◌<◌, List, [], ◌∷◌, None, length, refl, sym, ap, arith}
use Rattle.std.proofs.lemmas.List.Elements.{All-cons, All-get_or, All-head, All-nil}
use Rattle.customer_sets.specs.Pairs.{ForbiddenPairs}
use Rattle.ev_model.specs.Network.{Network}
use Rattle.fleet_model.specs.Section.{IsSectionOf}
use Rattle.fleet_model.specs.Tree.{leaf}
use Rattle.bound_certificate.specs.Meaning.{priced_section}
use Rattle.bound_certificate.specs.Ranges.{Fits, LineFits, SectionFits}
use Rattle.bound_certificate.specs.declared.certificate.Certificate.{Certificate}
use Rattle.bound_certificate.specs.declared.certificate.Root.TheVariants as plain
use Rattle.bound_certificate.specs.declared.certificate.Section.{Section}
use Rattle.bound_certificate.specs.declared.certificate.TreeLine.TheVariants.{Leaf}
use Rattle.bound_certificate.proofs.Meanings.{sections_fit}
use Rattle.certificate_parts.specs.Ranges.{customer_count}
use Rattle.mixed_model.specs.Kinds.{Agrees, AreKinds, first_of, network_of, no_network}
use Rattle.mixed_model.specs.Meaning.{labels_of, section_of}
use Rattle.mixed_model.specs.Ranges.{MixedFits}
use Rattle.mixed_model.specs.declared.proof.MixedProof.{MixedProof}

no_pairs : Network → ForbiddenPairs
no_pairs g = record { customers = customer_count g; after = []; home = [] }

abbrev listed : Network → MixedProof → ℕ → Section
listed g p kind = record { weight = p.weight; prices = p.prices; pairs = no_pairs g; labels = labels_of p kind }

-- a certificate that has the labels of one kind as its section
abbrev alone : Network → MixedProof → ℕ → Certificate
alone g p kind = record { bound = None; root = plain.None; sections = listed g p kind ∷ []; tree = Leaf 0 ∷ [] }

module _ (kinds : List Network) (p : MixedProof) (are : AreKinds kinds) (fits : MixedFits kinds p) where
  listed_fits : (kind : ℕ) → kind < length kinds → SectionFits (network_of kinds kind) (listed (network_of kinds kind) p kind)
  unfolding no_pairs
  listed_fits kind known =
      let agrees = All-get_or (Agrees (first_of kinds)) kinds kind no_network known are.agree in
      let labels = fits.labels kind known in
      record {
        weight = fits.weight;
        one_price = fits.one_price ∙ ap (λ (nodes : List ℕ). length nodes) (sym agrees.customers);
        prices = fits.prices;
        pairs = refl;
        few = labels.few;
        labels = labels.each;
      }

  alone_fits : (kind : ℕ) → kind < length kinds → Fits (network_of kinds kind) (alone (network_of kinds kind) p kind)
  alone_fits kind known =
      let g = network_of kinds kind in
      record {
        bound = tt;
        root_fits = tt;
        some = omega arith;
        few = omega arith;
        sections = All-cons (SectionFits g) (listed g p kind) [] (listed_fits kind known) (All-nil (SectionFits g));
        lines = All-cons (LineFits (customer_count g) 1) (Leaf 0) [] (omega arith) (All-nil (LineFits (customer_count g) 1));
        whole = (leaf 0, refl);
      }

  pub section_at : (kind : ℕ) → kind < length kinds → IsSectionOf (network_of kinds kind) (section_of p kind)
  section_at kind known =
      let g = network_of kinds kind in
      let of = All-head (IsSectionOf g) (priced_section (listed g p kind)) [] (sections_fit g (alone g p kind) (alone_fits kind known)) in
      record { one_price = of.one_price; levels = of.levels }
