-- What a proof for several kinds of vehicles is read from, and what its first fault tells.
use Rattle.std.proofs.Common.{◌≡◌, ◌∙◌, ◌↔◌, ◌⊎◌, ℕ, ◌<◌, ◌≤◌, List, [], ◌∷◌, ◌++◌, codes, decimal, length, take, Ok, Err, refl, sym, ap, arith}
use Rattle.std.specs.List.{All}
use Rattle.std.proofs.lemmas.Fmt.{decimal_digit}
use Rattle.ev_model.specs.Network.{IsNetwork, Network}
use Rattle.ev_text.specs.Readers.{whole_with}
use Rattle.ev_text.specs.Texts.{IsLonger, StandsUnlessLonger}
use Rattle.ev_text.proofs.ReadingLaws.{Reads}
use Rattle.ev_text.proofs.Results.{Ok-injective}
use Rattle.ev_text.proofs.WholeReads.{ranged-spells}
use Rattle.ev_text.proofs.Numbers.{Anything}
use Rattle.certificate_parts.specs.Limits.{most_bytes}
use Rattle.certificate_parts.specs.Versions.{version_line}
use Rattle.certificate_parts.specs.declared.cert_text.CertText.TheVariants.{Range, Text, TooLong, Version}
use Rattle.certificate_parts.proofs.TextLaws as parts
use Rattle.mixed_model.specs.Kinds.{AreKinds}
use Rattle.mixed_model.specs.Ranges.{MixedFits}
use Rattle.mixed_model.specs.declared.proof.MixedProof.{MixedProof}
use Rattle.mixed_text.specs.MixedIn.{BeginsLoosely, BeginsOtherVersion, HaveSets, IsSpelledBy, SpellsWritten, mixed_in, mixed_word}
use Rattle.mixed_text.specs.MixedTexts.{kinds_line, mixed_body_text, mixed_text}
use Rattle.mixed_text.specs.Reading.{mixed_proof_at}
use Rattle.mixed_text.specs.Written.{WrittenMixed, written_mixed}
use Rattle.mixed_text.specs.WrittenRanges.{MixedIs, MixedLoose}
use Rattle.mixed_text.proofs.MixedReading.{reads-mixed}
use Rattle.mixed_text.proofs.OneMixed.{one_written}
use Rattle.mixed_text.proofs.WrittenMixeds.{mixed_is}

-- a proof's text begins with its version
own_line : (w : WrittenMixed) → (rest : List ℕ) × (mixed_text w ≡ version_line mixed_word 1 ++ rest)
own_line w =
    let digit : decimal 1 ≡ 49 ∷ [] = decimal_digit 1 (omega arith) in
    let rest = kinds_line (length w.labels) ++ mixed_body_text w in
    (rest, ap (λ ds. (codes "evroute mixed " ++ (ds ++ 10 ∷ [])) ++ rest) (sym digit))

pub version_told : (kinds : List Network) (bytes : List ℕ) → (mixed_in kinds bytes ≡ Err Version) ↔ ((length bytes ≤ most_bytes) × BeginsOtherVersion bytes)
version_told kinds bytes = parts.version_told 101 (codes "vroute mixed ") 1 (mixed_proof_at kinds) bytes

pub length_told : (kinds : List Network) (bytes : List ℕ) (len : ℕ) → (mixed_in kinds bytes ≡ Err (TooLong len)) ↔ ((most_bytes < length bytes) × (len ≡ length bytes))
length_told kinds bytes len = parts.length_told 101 (codes "vroute mixed ") 1 (mixed_proof_at kinds) bytes len

module _ (kinds : List Network) (networks : All IsNetwork kinds) (are : AreKinds kinds) where
  reads : Reads StandsUnlessLonger (mixed_proof_at kinds) mixed_text (MixedIs kinds) (MixedLoose kinds) Anything
  reads = reads-mixed kinds networks are

  pub mixed_is_spelled : (bytes : List ℕ) (w : WrittenMixed) → (mixed_in kinds bytes ≡ Ok w) ↔ SpellsWritten kinds bytes w
  mixed_is_spelled bytes w =
      let whole = parts.text_is_spelled 101 (codes "vroute mixed ") 1 (mixed_proof_at kinds) mixed_text (MixedIs kinds) (MixedLoose kinds) reads (omega arith) own_line bytes w in (
        λ is. let spelled = whole.0 is in record { within = spelled.0; ranges = spelled.1; text = spelled.2 },
        λ spells. whole.1 (spells.within, spells.ranges, spells.text),
      )

  pub text_is_read : (p : MixedProof) → MixedFits kinds p → length (mixed_text (written_mixed kinds p)) ≤ most_bytes → mixed_in kinds (mixed_text (written_mixed kinds p)) ≡ Ok (written_mixed kinds p)
  text_is_read p fits within = (mixed_is_spelled (mixed_text (written_mixed kinds p)) (written_mixed kinds p)).1 (record { within = within; ranges = mixed_is kinds networks are p fits; text = refl })

  pub spelled_where_read : (bytes : List ℕ) (p : MixedProof) → mixed_in kinds bytes ≡ Ok (written_mixed kinds p) → MixedFits kinds p → HaveSets p.labels → IsSpelledBy kinds bytes p
  spelled_where_read bytes p is fits kept = record { fits = fits; kept = kept; text = ((mixed_is_spelled bytes (written_mixed kinds p)).0 is).text }

  -- the text of a proof is read as what is written of it
  text_tells : (bytes : List ℕ) (p : MixedProof) → IsSpelledBy kinds bytes p → whole_with (mixed_proof_at kinds) bytes ≡ Ok (written_mixed kinds p)
  text_tells bytes p is =
      (ranged-spells StandsUnlessLonger (mixed_proof_at kinds) mixed_text (MixedIs kinds) (MixedLoose kinds) Anything reads (λ w fits. tt) bytes (written_mixed kinds p)).1
      (mixed_is kinds networks are p is.fits, is.text)

  pub one_mixed : (bytes : List ℕ) (p q : MixedProof) → IsSpelledBy kinds bytes p → IsSpelledBy kinds bytes q → p ≡ q
  one_mixed bytes p q is was =
      one_written kinds are p q is.fits was.fits is.kept was.kept (Ok-injective (written_mixed kinds p) (written_mixed kinds q) (sym (text_tells bytes p is) ∙ text_tells bytes q was))

  pub range_is_first : (bytes : List ℕ) (at : ℕ) → mixed_in kinds bytes ≡ Err (Range at)
      → BeginsLoosely kinds (take at bytes) × (at ≤ length bytes) × ((more : List ℕ) → (IsLonger at bytes more → ⊥) → (w : WrittenMixed) → MixedIs kinds w → mixed_text w ≡ bytes ++ more → ⊥)
  range_is_first = parts.range_is_first 101 (codes "vroute mixed ") 1 (mixed_proof_at kinds) mixed_text (MixedIs kinds) (MixedLoose kinds) reads (omega arith) own_line

  pub text_is_first : (bytes : List ℕ) (at : ℕ) → mixed_in kinds bytes ≡ Err (Text at)
      → BeginsLoosely kinds (take at bytes) × (at ≤ length bytes) × (BeginsLoosely kinds bytes ⊎ ((more : List ℕ) (w : WrittenMixed) → MixedIs kinds w → mixed_text w ≡ bytes ++ more → ⊥))
  text_is_first = parts.text_is_first 101 (codes "vroute mixed ") 1 (mixed_proof_at kinds) mixed_text (MixedIs kinds) (MixedLoose kinds) reads (omega arith) own_line
