-- What a certificate is beside its text: what its types promise of each value, and when two certificates are the same.
use Rattle.std.specs.Prelude.{◌≡◌, ℕ, Bool, ℤ, List, map}
use Rattle.std.specs.List.{All}
use Rattle.customer_sets.specs.Pairs.{IsPairs, allows_of}
use Rattle.ev_model.specs.Network.{Network}
use Rattle.piece_fn.specs.declared.label.Label.{Label}
use Rattle.bound_certificate.specs.CertificateTexts.{certificate_text}
use Rattle.bound_certificate.specs.Ranges.{Fits}
use Rattle.bound_certificate.specs.Written.{written}
use Rattle.bound_certificate.specs.declared.certificate.Certificate.{Certificate}
use Rattle.bound_certificate.specs.declared.certificate.Section.{Section}
use Rattle.certificate_parts.specs.Ranges.{HasSet}

-- a section as it is kept: each label has a set, and each forbidden pair is of two different places that there are
pub record IsKept (s : Section) : Type 0 where
  pub pairs_are : IsPairs s.pairs
  pub sets : All HasSet s.labels

-- what a section says; of its forbidden pairs, which pairs are allowed
pub record SectionSays : Type 0 where
  pub weight : ℕ
  pub prices : List ℤ
  pub allows : ℕ → ℕ → Bool
  pub labels : List Label

abbrev pub said_by : Section → SectionSays
said_by s = record {
  weight = s.weight;
  prices = s.prices;
  allows = allows_of s.pairs;
  labels = s.labels;
}

-- two certificates are the same: part by part, and section by section
pub record AreSame (c d : Certificate) : Type 0 where
  pub bound : c.bound ≡ d.bound
  pub root_is : c.root ≡ d.root
  pub sections : map said_by c.sections ≡ map said_by d.sections
  pub tree : c.tree ≡ d.tree

-- a certificate in the ranges of the network whose text these bytes are
pub record IsSpelledBy (g : Network) (bytes : List ℕ) (c : Certificate) : Type 0 where
  pub fits : Fits g c
  pub kept : All IsKept c.sections
  pub text : bytes ≡ certificate_text g (written g c)
