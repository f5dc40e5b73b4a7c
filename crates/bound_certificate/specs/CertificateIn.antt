-- The certificate of bytes, or why they are none: too many bytes, another version, or the first fault from the left.
use Rattle.std.specs.Prelude.{◌≡◌, ℕ, ◌≤◌, Bool, List, Result, codes, length, if◌then◌else◌}
use Rattle.ev_model.specs.Network.{Network}
use Rattle.ev_text.specs.Texts.{Begins, IsTextOf}
use Rattle.certificate_parts.specs.Limits.{most_bytes}
use Rattle.certificate_parts.specs.Versions.{BeginsAnother, begins_another, text_in}
use Rattle.certificate_parts.specs.declared.cert_text.CertText.{CertText}
use Rattle.bound_certificate.specs.CertificateTexts.{certificate_text, is_first_version}
use Rattle.bound_certificate.specs.Reading.{certificate_at}
use Rattle.bound_certificate.specs.Written.{Written}
use Rattle.bound_certificate.specs.WrittenRanges.{WrittenIs, WrittenLoose}

-- the version of an instance's certificates
abbrev pub own_version : Network → ℕ
own_version g = if is_first_version g then 1 else 2

-- the word in front of the version of a certificate
abbrev pub certificate_word : List ℕ
certificate_word = codes "evroute certificate "

-- the bytes begin with the first line of another version
abbrev pub has_other_version : Network → List ℕ → Bool
has_other_version g bytes = begins_another certificate_word (own_version g) bytes

-- the certificate of the bytes as it is written, or the first cause why there is none
abbrev pub certificate_in : Network → List ℕ → Result Written CertText
certificate_in g bytes = text_in certificate_word (own_version g) (certificate_at g) bytes

-- the bytes begin with the first line of a version that is not the instance's
abbrev pub BeginsOtherVersion : Network → List ℕ → Type 0
BeginsOtherVersion g bytes = BeginsAnother certificate_word (own_version g) bytes

-- the bytes are the text of what is written, and are not too many
pub record SpellsWritten (g : Network) (bytes : List ℕ) (w : Written) : Type 0 where
  pub within : length bytes ≤ most_bytes
  pub ranges : WrittenIs g w
  pub text : bytes ≡ certificate_text g w

-- the bytes can be continued to a text in which each number is in its range by itself
abbrev pub BeginsLoosely : Network → List ℕ → Type 0
BeginsLoosely g bytes = Begins (IsTextOf (certificate_text g) (WrittenLoose g)) bytes
