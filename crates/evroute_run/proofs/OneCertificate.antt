-- Bytes mean one certificate at most, and so one list of priced sections.
use Rattle.std.proofs.Common.{◌≡◌, ◌∙◌, ℕ, List, [], ◌∷◌, map, ap, refl, sym}
use Rattle.ev_model.specs.Network.{Network}
use Rattle.ev_text.proofs.Results.{Ok-injective}
use Rattle.bound_certificate.proofs.OneCertificate.{one_written}
use Rattle.bound_certificate.specs.Kept.{SectionSays, said_by}
use Rattle.bound_certificate.specs.Meaning.{priced_label, priced_sections}
use Rattle.bound_certificate.specs.Written.{written}
use Rattle.bound_certificate.specs.declared.certificate.Certificate.{Certificate}
use Rattle.bound_certificate.specs.declared.certificate.Section.{Section}
use Rattle.fleet_model.specs.Section.{Section as PricedSection}
use Rattle.evroute_run.specs.CheckAnswer.{IsCertificateOf}

-- two certificates that stand for the same
pub record AreSame (c d : Certificate) : Type 0 where
  pub bound : c.bound ≡ d.bound
  pub root_is : c.root ≡ d.root
  pub sections : priced_sections c.sections ≡ priced_sections d.sections
  pub tree : c.tree ≡ d.tree

-- what a section says tells what it stands for
abbrev priced_from : SectionSays → PricedSection
priced_from s = record {
  weight = s.weight;
  prices = s.prices;
  allows = s.allows;
  labels = map (priced_label s.prices) s.labels;
}

priced_by : (sections : List Section) → map priced_from (map said_by sections) ≡ priced_sections sections
priced_by [] = refl
priced_by (s ∷ ss) = ap (λ rest. priced_from (said_by s) ∷ rest) (priced_by ss)

pub one_certificate : (g : Network) (bytes : List ℕ) (c d : Certificate) → IsCertificateOf g bytes c → IsCertificateOf g bytes d → AreSame c d
one_certificate g bytes c d is was =
    let same = one_written g c d is.fits was.fits is.kept was.kept (Ok-injective (written g c) (written g d) (sym is.read ∙ was.read)) in
    record {
      bound = same.bound;
      root_is = same.root_is;
      sections = sym (priced_by c.sections) ∙ ap (λ ss. map priced_from ss) same.sections ∙ priced_by d.sections;
      tree = same.tree;
    }
