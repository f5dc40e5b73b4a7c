-- A certificate that fits has a text, which is read as what is written.
use Rattle.std.proofs.Common.{◌≡◌, ℕ, ◌≤◌, List, [], ◌∷◌, Ok, length, map, refl, sym, subst, arith}
use Rattle.std.specs.List.{All}
use Rattle.std.proofs.lemmas.Bool.{le-leb}
use Rattle.std.proofs.lemmas.List.{length-map}
use Rattle.std.proofs.lemmas.List.Elements.{All-cons, All-head, All-nil, All-tail}
use Rattle.ev_model.specs.Network.{IsNetwork, Network}
use Rattle.bound_certificate.specs.CertificateIn.{certificate_in}
use Rattle.bound_certificate.specs.CertificateTexts.{certificate_text}
use Rattle.certificate_parts.specs.Limits.{most_bytes}
use Rattle.certificate_parts.specs.Ranges.{LabelFits, customer_count}
use Rattle.bound_certificate.specs.Ranges.{Fits, LineFits, RootFits, SectionFits, ShareFits}
use Rattle.certificate_parts.specs.Written.{written_label}
use Rattle.bound_certificate.specs.Written.{written, written_line, written_root, written_section}
use Rattle.certificate_parts.specs.WrittenRanges.{LabelIs}
use Rattle.bound_certificate.specs.WrittenRanges.{LineIs, RootIs, SectionIs, ShareIs, WrittenIs}
use Rattle.bound_certificate.specs.declared.certificate.Certificate.{Certificate}
use Rattle.bound_certificate.specs.declared.certificate.Root.{Root}
use Rattle.bound_certificate.specs.declared.certificate.Root.TheVariants as root
use Rattle.bound_certificate.specs.declared.certificate.Section.{Section}
use Rattle.bound_certificate.proofs.CertificateLaws.{certificate_is_spelled}
use Rattle.bound_certificate.proofs.TreeLines.{whole_where_closed}
use Rattle.bound_certificate.proofs.WrittenFits.{closes_written, line_is, share_is}
use Rattle.certificate_parts.proofs.WrittenParts.{all_map, weight_is}
use Rattle.bound_certificate.proofs.WrittenLabels.{few_pairs, pairs_are}
use Rattle.certificate_parts.proofs.WrittenSets.{label_is}
use Rattle.certificate_parts.proofs.WrittenBasis.{basis_is, bound_is, prices_run}
use Rattle.instance_reader.specs.Instance.{most_customers}

all_as : {A : Type 0} (P Q : A → Type 0) (xs : List A) → ((a : A) → P a → Q a) → All P xs → All Q xs
all_as P Q [] step all = All-nil Q
all_as P Q (x ∷ xs) step all = All-cons Q x xs (step x (All-head P x xs all)) (all_as P Q xs step (All-tail P x xs all))

module _ (g : Network) (network : IsNetwork g) (few : customer_count g ≤ most_customers) where
  root_is : (r : Root) → RootFits (customer_count g) r → RootIs g (written_root g r)
  root_is root.None fits = tt
  root_is (root.Exact over shares) fits = (weight_is over fits.over_weight, fits.few, all_as ShareFits ShareIs shares share_is fits.each)
  root_is (root.Wide columns basis) fits = (
    fits.few,
    fits.each,
    basis_is g network (length columns) fits.few basis fits.basis_fits,
  )

  section_is : (s : Section) → SectionFits g s → SectionIs g (written_section g s)
  section_is s fits = record {
    weight = fits.weight;
    prices = (prices_run s.prices fits.prices, fits.one_price);
    few_pairs = few_pairs g network s.pairs few;
    pairs = pairs_are g network s.pairs;
    few_labels = let count = length-map s.labels (written_label g) in let own = fits.few in omega (arith, count, own);
    labels = all_map (written_label g) (LabelFits g) (LabelIs g) s.labels (label_is g network) fits.labels;
  }

  pub written_is : (c : Certificate) → Fits g c → WrittenIs g (written g c)
  written_is c fits =
      let count = length-map c.sections (written_section g) in
      let some = fits.some in
      let own = fits.few in
      record {
        bound = bound_is c.bound fits.bound;
        root_is = root_is c.root fits.root_fits;
        sections = ((omega (arith, count, own), le-leb 1 (length (map (written_section g) c.sections)) (omega (arith, count, some))), all_map (written_section g) (SectionFits g) (SectionIs g) c.sections section_is fits.sections);
        tree = (
          all_map (written_line g) (LineFits (customer_count g) (length c.sections)) (LineIs g (length (map (written_section g) c.sections))) c.tree
              (λ line line_fits. subst (λ (n : ℕ). LineIs g n (written_line g line)) (sym count) (line_is g network (length c.sections) own line line_fits)) fits.lines,
          closes_written g 1 c.tree ((whole_where_closed c.tree).1 fits.whole),
        );
      }

  pub text_is_read : (c : Certificate) → Fits g c → length (certificate_text g (written g c)) ≤ most_bytes → certificate_in g (certificate_text g (written g c)) ≡ Ok (written g c)
  text_is_read c fits within = (certificate_is_spelled g network (certificate_text g (written g c)) (written g c)).1 (record { within = within; ranges = written_is c fits; text = refl })
