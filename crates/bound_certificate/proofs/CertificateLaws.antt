-- What a certificate is read from, and what its first fault tells.
use Rattle.std.proofs.Common.{◌≡◌, ◌↔◌, ◌⊎◌, ℕ, ◌<◌, ◌≤◌, Bool, true, false, List, [], ◌∷◌, ◌++◌, codes, decimal, length, take, Ok, Err, sym, ap, arith, if◌then◌else◌}
use Rattle.std.proofs.lemmas.Fmt.{decimal_digit}
use Rattle.ev_model.specs.Network.{IsNetwork, Network}
use Rattle.ev_text.specs.Texts.{IsLonger, StandsUnlessLonger}
use Rattle.ev_text.proofs.ReadingLaws.{Reads}
use Rattle.ev_text.proofs.Numbers.{Anything}
use Rattle.certificate_parts.specs.Limits.{most_bytes}
use Rattle.certificate_parts.specs.Versions.{greatest_version, version_line}
use Rattle.certificate_parts.specs.declared.cert_text.CertText.TheVariants.{Range, Text, TooLong, Version}
use Rattle.certificate_parts.proofs.TextLaws as parts
use Rattle.bound_certificate.specs.CertificateIn.{BeginsLoosely, BeginsOtherVersion, SpellsWritten, certificate_in, certificate_word, own_version}
use Rattle.bound_certificate.specs.CertificateTexts.{body_text, certificate_text, head_lines, is_first_version}
use Rattle.bound_certificate.specs.Reading.{certificate_at}
use Rattle.bound_certificate.specs.Written.{Written}
use Rattle.bound_certificate.specs.WrittenRanges.{WrittenIs, WrittenLoose}
use Rattle.bound_certificate.proofs.HeadReading.{reads-certificate}

-- a certificate's text begins with the instance's version
first_line : (first : Bool) (reserve home : ℕ) (body : List ℕ) → (rest : List ℕ) × (head_lines first reserve home ++ body ≡ version_line certificate_word (if first then 1 else 2) ++ rest)
first_line true reserve home body =
    let digit : decimal 1 ≡ 49 ∷ [] = decimal_digit 1 (omega arith) in
    (body, ap (λ ds. (codes "evroute certificate " ++ (ds ++ 10 ∷ [])) ++ body) (sym digit))
first_line false reserve home body =
    let digit : decimal 2 ≡ 50 ∷ [] = decimal_digit 2 (omega arith) in
    let rest = (codes "levels " ++ (decimal reserve ++ (codes " " ++ (decimal home ++ 10 ∷ [])))) ++ body in
    (rest, ap (λ ds. (codes "evroute certificate " ++ (ds ++ 10 ∷ [])) ++ rest) (sym digit))

version_is_small : (first : Bool) → (if first then 1 else 2) ≤ greatest_version
version_is_small true = omega arith
version_is_small false = omega arith

own_line : (g : Network) (w : Written) → (rest : List ℕ) × (certificate_text g w ≡ version_line certificate_word (own_version g) ++ rest)
own_line g w = first_line (is_first_version g) g.reserve g.home_level (body_text w)

pub version_told : (g : Network) (bytes : List ℕ) → (certificate_in g bytes ≡ Err Version) ↔ ((length bytes ≤ most_bytes) × BeginsOtherVersion g bytes)
version_told g bytes = parts.version_told 101 (codes "vroute certificate ") (own_version g) (certificate_at g) bytes

pub length_told : (g : Network) (bytes : List ℕ) (len : ℕ) → (certificate_in g bytes ≡ Err (TooLong len)) ↔ ((most_bytes < length bytes) × (len ≡ length bytes))
length_told g bytes len = parts.length_told 101 (codes "vroute certificate ") (own_version g) (certificate_at g) bytes len

module _ (g : Network) (network : IsNetwork g) where
  pub reads : Reads StandsUnlessLonger (certificate_at g) (certificate_text g) (WrittenIs g) (WrittenLoose g) Anything
  reads =
      reads-certificate g (omega (arith, network.small_capacity)) (omega (arith, network.small_limit)) (omega (arith, network.small_capacity, network.reserve_within)) (omega (arith, network.small_capacity, network.home_within))

  pub certificate_is_spelled : (bytes : List ℕ) (w : Written) → (certificate_in g bytes ≡ Ok w) ↔ SpellsWritten g bytes w
  certificate_is_spelled bytes w =
      let whole =
      parts.text_is_spelled 101 (codes "vroute certificate ") (own_version g) (certificate_at g) (certificate_text g) (WrittenIs g) (WrittenLoose g) reads (version_is_small (is_first_version g)) (own_line g) bytes w in (
        λ is. let spelled = whole.0 is in record { within = spelled.0; ranges = spelled.1; text = spelled.2 },
        λ spells. whole.1 (spells.within, spells.ranges, spells.text),
      )

  pub range_is_first : (bytes : List ℕ) (at : ℕ) → certificate_in g bytes ≡ Err (Range at)
      → BeginsLoosely g (take at bytes) × (at ≤ length bytes) × ((more : List ℕ) → (IsLonger at bytes more → ⊥) → (w : Written) → WrittenIs g w → certificate_text g w ≡ bytes ++ more → ⊥)
  range_is_first = parts.range_is_first 101 (codes "vroute certificate ") (own_version g) (certificate_at g) (certificate_text g) (WrittenIs g) (WrittenLoose g) reads (version_is_small (is_first_version g)) (own_line g)

  pub text_is_first : (bytes : List ℕ) (at : ℕ) → certificate_in g bytes ≡ Err (Text at)
      → BeginsLoosely g (take at bytes) × (at ≤ length bytes) × (BeginsLoosely g bytes ⊎ ((more : List ℕ) (w : Written) → WrittenIs g w → certificate_text g w ≡ bytes ++ more → ⊥))
  text_is_first = parts.text_is_first 101 (codes "vroute certificate ") (own_version g) (certificate_at g) (certificate_text g) (WrittenIs g) (WrittenLoose g) reads (version_is_small (is_first_version g)) (own_line g)
