-- What a near proof is read from, and what its first fault tells.
use Rattle.std.proofs.Common.{◌≡◌, ◌∙◌, ◌↔◌, ◌⊎◌, ℕ, ◌<◌, ◌≤◌, List, [], ◌∷◌, ◌++◌, codes, decimal, length, take, Ok, Err, refl, sym, ap, arith}
use Rattle.std.proofs.lemmas.Fmt.{decimal_digit}
use Rattle.ev_model.specs.Network.{IsNetwork, Network}
use Rattle.ev_text.specs.Readers.{whole_with}
use Rattle.ev_text.specs.Texts.{IsLonger, StandsUnlessLonger}
use Rattle.ev_text.proofs.ReadingLaws.{Reads}
use Rattle.ev_text.proofs.Results.{Ok-injective}
use Rattle.ev_text.proofs.WholeReads.{ranged-spells}
use Rattle.ev_text.proofs.Numbers.{Anything}
use Rattle.certificate_parts.specs.Limits.{most_bytes}
use Rattle.certificate_parts.specs.Ranges.{customer_count}
use Rattle.certificate_parts.specs.Versions.{version_line}
use Rattle.certificate_parts.specs.declared.cert_text.CertText.TheVariants.{Range, Text, TooLong, Version}
use Rattle.certificate_parts.proofs.TextLaws as parts
use Rattle.near_proof.specs.Ranges.{NearFits}
use Rattle.near_proof.specs.declared.proof.NearProof.{NearProof}
use Rattle.near_text.specs.NearIn.{BeginsLoosely, BeginsOtherVersion, IsKept, IsSpelledBy, SpellsWritten, near_in, near_word}
use Rattle.near_text.specs.NearTexts.{near_body_text, near_text}
use Rattle.near_text.specs.Reading.{near_proof_at}
use Rattle.near_text.specs.Written.{WrittenNear, written_near}
use Rattle.near_text.specs.WrittenRanges.{NearIs, NearLoose}
use Rattle.near_text.proofs.NearReading.{reads-near_proof}
use Rattle.near_text.proofs.WrittenNears.{near_is, one_written}
use Rattle.instance_reader.specs.Instance.{most_customers}

-- a near proof's text begins with its version
own_line : (w : WrittenNear) → (rest : List ℕ) × (near_text w ≡ version_line near_word 1 ++ rest)
own_line w =
    let digit : decimal 1 ≡ 49 ∷ [] = decimal_digit 1 (omega arith) in
    (near_body_text w, ap (λ ds. (codes "evroute near " ++ (ds ++ 10 ∷ [])) ++ near_body_text w) (sym digit))

pub version_told : (g : Network) (bytes : List ℕ) → (near_in g bytes ≡ Err Version) ↔ ((length bytes ≤ most_bytes) × BeginsOtherVersion bytes)
version_told g bytes = parts.version_told 101 (codes "vroute near ") 1 (near_proof_at g) bytes

pub length_told : (g : Network) (bytes : List ℕ) (len : ℕ) → (near_in g bytes ≡ Err (TooLong len)) ↔ ((most_bytes < length bytes) × (len ≡ length bytes))
length_told g bytes len = parts.length_told 101 (codes "vroute near ") 1 (near_proof_at g) bytes len

module _ (g : Network) (network : IsNetwork g) (few : customer_count g ≤ most_customers) where
  reads : Reads StandsUnlessLonger (near_proof_at g) near_text (NearIs g) (NearLoose g) Anything
  reads = reads-near_proof g few (omega (arith, network.small_capacity)) (omega (arith, network.small_limit))

  pub near_is_spelled : (bytes : List ℕ) (w : WrittenNear) → (near_in g bytes ≡ Ok w) ↔ SpellsWritten g bytes w
  near_is_spelled bytes w =
      let whole = parts.text_is_spelled 101 (codes "vroute near ") 1 (near_proof_at g) near_text (NearIs g) (NearLoose g) reads (omega arith) own_line bytes w in (
        λ is. let spelled = whole.0 is in record { within = spelled.0; ranges = spelled.1; text = spelled.2 },
        λ spells. whole.1 (spells.within, spells.ranges, spells.text),
      )

  pub text_is_read : (p : NearProof) → NearFits g p → length (near_text (written_near g p)) ≤ most_bytes → near_in g (near_text (written_near g p)) ≡ Ok (written_near g p)
  text_is_read p fits within = (near_is_spelled (near_text (written_near g p)) (written_near g p)).1 (record { within = within; ranges = near_is g network p fits; text = refl })

  pub spelled_where_read : (bytes : List ℕ) (p : NearProof) → near_in g bytes ≡ Ok (written_near g p) → NearFits g p → IsKept p → IsSpelledBy g bytes p
  spelled_where_read bytes p is fits kept = record { fits = fits; kept = kept; text = ((near_is_spelled bytes (written_near g p)).0 is).text }

  -- the text of a near proof is read as what is written of it
  text_tells : (bytes : List ℕ) (p : NearProof) → IsSpelledBy g bytes p → whole_with (near_proof_at g) bytes ≡ Ok (written_near g p)
  text_tells bytes p is =
      (ranged-spells StandsUnlessLonger (near_proof_at g) near_text (NearIs g) (NearLoose g) Anything reads (λ w fits. tt) bytes (written_near g p)).1
      (near_is g network p is.fits, is.text)

  pub one_near : (bytes : List ℕ) (p q : NearProof) → IsSpelledBy g bytes p → IsSpelledBy g bytes q → p ≡ q
  one_near bytes p q is was =
      one_written g p q is.fits was.fits is.kept was.kept (Ok-injective (written_near g p) (written_near g q) (sym (text_tells bytes p is) ∙ text_tells bytes q was))

  pub range_is_first : (bytes : List ℕ) (at : ℕ) → near_in g bytes ≡ Err (Range at)
      → BeginsLoosely g (take at bytes) × (at ≤ length bytes) × ((more : List ℕ) → (IsLonger at bytes more → ⊥) → (w : WrittenNear) → NearIs g w → near_text w ≡ bytes ++ more → ⊥)
  range_is_first = parts.range_is_first 101 (codes "vroute near ") 1 (near_proof_at g) near_text (NearIs g) (NearLoose g) reads (omega arith) own_line

  pub text_is_first : (bytes : List ℕ) (at : ℕ) → near_in g bytes ≡ Err (Text at)
      → BeginsLoosely g (take at bytes) × (at ≤ length bytes) × (BeginsLoosely g bytes ⊎ ((more : List ℕ) (w : WrittenNear) → NearIs g w → near_text w ≡ bytes ++ more → ⊥))
  text_is_first = parts.text_is_first 101 (codes "vroute near ") 1 (near_proof_at g) near_text (NearIs g) (NearLoose g) reads (omega arith) own_line
