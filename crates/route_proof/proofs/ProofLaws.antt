-- What a proof is read from, and what its first fault tells.
use Rattle.std.proofs.Common.{◌≡◌, ◌∙◌, ◌↔◌, ◌⊎◌, ℕ, ◌<◌, ◌≤◌, List, [], ◌∷◌, ◌++◌, codes, decimal, length, take, Ok, Err, refl, sym, ap, subst, arith}
use Rattle.std.proofs.lemmas.Fmt.{decimal_digit}
use Rattle.std.proofs.lemmas.List.{length-append}
use Rattle.ev_model.specs.Network.{IsNetwork, Network}
use Rattle.ev_model.specs.Route.{IsRoute}
use Rattle.ev_text.specs.Texts.{IsLonger, StandsUnlessLonger, joined_texts}
use Rattle.ev_text.proofs.ReadingLaws.{Reads}
use Rattle.ev_text.proofs.Results.{Ok-injective}
use Rattle.ev_text.proofs.Numbers.{Anything}
use Rattle.route_steps.proofs.WayHomePlans.{is_trip}
use Rattle.certificate_parts.specs.Limits.{most_bytes, most_items}
use Rattle.certificate_parts.specs.Versions.{version_line}
use Rattle.certificate_parts.specs.declared.cert_text.CertText.TheVariants.{Range, Text, TooLong, Version}
use Rattle.certificate_parts.proofs.TextLaws as parts
use Rattle.route_proof.specs.Ranges.{ProofFits}
use Rattle.route_proof.specs.declared.proof.RouteLabel.{RouteLabel}
use Rattle.route_proof.specs.declared.proof.RouteProof.{RouteProof}
use Rattle.route_proof.specs.ProofIn.{BeginsLoosely, BeginsOtherVersion, SpellsProof, proof_in, proof_word}
use Rattle.route_proof.specs.ProofTexts.{body_text, label_text, labels_head, labels_text, listed_text, proof_text}
use Rattle.route_proof.specs.Reading.{proof_at}
use Rattle.route_proof.specs.TextRanges.{HasText, ProofLoose}
use Rattle.route_proof.proofs.ProofReading.{reads-proof}

-- a proof's text begins with its version
own_line : (p : RouteProof) → (rest : List ℕ) × (proof_text p ≡ version_line proof_word 1 ++ rest)
own_line p =
    let digit : decimal 1 ≡ 49 ∷ [] = decimal_digit 1 (omega arith) in
    (body_text p, ap (λ ds. (codes "evroute proof " ++ (ds ++ 10 ∷ [])) ++ body_text p) (sym digit))

-- each label has a byte
no_more_labels : (labels : List RouteLabel) → length labels ≤ length (joined_texts label_text labels)
no_more_labels [] = omega arith
no_more_labels (l ∷ labels) = let rest = no_more_labels labels in omega (arith, rest, length-append (label_text l) (joined_texts label_text labels))

few_labels : (p : RouteProof) → length (proof_text p) ≤ most_bytes → length p.labels ≤ most_items
few_labels p within =
    omega (arith, within, no_more_labels p.labels, length-append (listed_text p.plan) (labels_text p.labels), length-append (labels_head (length p.labels)) (joined_texts label_text p.labels))

pub version_told : (g : Network) (route bytes : List ℕ) → (proof_in g route bytes ≡ Err Version) ↔ ((length bytes ≤ most_bytes) × BeginsOtherVersion bytes)
version_told g route bytes = parts.version_told 101 (codes "vroute proof ") 1 (proof_at g route) bytes

pub length_told : (g : Network) (route bytes : List ℕ) (len : ℕ) → (proof_in g route bytes ≡ Err (TooLong len)) ↔ ((most_bytes < length bytes) × (len ≡ length bytes))
length_told g route bytes len = parts.length_told 101 (codes "vroute proof ") 1 (proof_at g route) bytes len

module _ (g : Network) (route : List ℕ) (network : IsNetwork g) (is : IsRoute g route) (small : length route ≤ most_items) where
  reads : Reads StandsUnlessLonger (proof_at g route) proof_text (HasText g route) (ProofLoose g route) Anything
  reads = reads-proof g route (is_trip g route network is) small

  pub proof_is_spelled : (bytes : List ℕ) (p : RouteProof) → (proof_in g route bytes ≡ Ok p) ↔ SpellsProof g route bytes p
  proof_is_spelled bytes p =
      let whole = parts.text_is_spelled 101 (codes "vroute proof ") 1 (proof_at g route) proof_text (HasText g route) (ProofLoose g route) reads (omega arith) own_line bytes p in (
        λ read. let spelled = whole.0 read in record { within = spelled.0; fits = spelled.1.fits; text = spelled.2 },
        λ spells. whole.1 (spells.within, record { fits = spells.fits; few = few_labels p (subst (λ (xs : List ℕ). length xs ≤ most_bytes) spells.text spells.within) }, spells.text),
      )

  pub text_is_read : (p : RouteProof) → ProofFits g route p → length (proof_text p) ≤ most_bytes → proof_in g route (proof_text p) ≡ Ok p
  text_is_read p fits within = (proof_is_spelled (proof_text p) p).1 (record { within = within; fits = fits; text = refl })

  pub one_proof : (bytes : List ℕ) (p q : RouteProof) → SpellsProof g route bytes p → SpellsProof g route bytes q → p ≡ q
  one_proof bytes p q first second = Ok-injective p q (sym ((proof_is_spelled bytes p).1 first) ∙ (proof_is_spelled bytes q).1 second)

  pub range_is_first : (bytes : List ℕ) (at : ℕ) → proof_in g route bytes ≡ Err (Range at)
      → BeginsLoosely g route (take at bytes) × (at ≤ length bytes) × ((more : List ℕ) → (IsLonger at bytes more → ⊥) → (p : RouteProof) → HasText g route p → proof_text p ≡ bytes ++ more → ⊥)
  range_is_first = parts.range_is_first 101 (codes "vroute proof ") 1 (proof_at g route) proof_text (HasText g route) (ProofLoose g route) reads (omega arith) own_line

  pub text_is_first : (bytes : List ℕ) (at : ℕ) → proof_in g route bytes ≡ Err (Text at)
      → BeginsLoosely g route (take at bytes) × (at ≤ length bytes) × (BeginsLoosely g route bytes ⊎ ((more : List ℕ) (p : RouteProof) → HasText g route p → proof_text p ≡ bytes ++ more → ⊥))
  text_is_first = parts.text_is_first 101 (codes "vroute proof ") 1 (proof_at g route) proof_text (HasText g route) (ProofLoose g route) reads (omega arith) own_line
