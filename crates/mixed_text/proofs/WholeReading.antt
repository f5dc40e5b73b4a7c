-- Reading the text of a proof for several kinds of vehicles as a whole.
use Rattle.std.proofs.Common.{◌≡◌, ◌∙◌, ℕ, ℤ, List, Option, length, Ok, Err, refl, sym, ap}
use Rattle.ev_model.specs.Network.{Network}
use Rattle.piece_fn.specs.declared.label.Label.{Label}
use Rattle.certificate_parts.specs.Reading.{bound_at, prices_at}
use Rattle.certificate_parts.specs.Refusals.{or_refused}
use Rattle.certificate_parts.specs.Written.{WrittenLabel}
use Rattle.certificate_parts.specs.declared.cert_text.CertText.{CertText}
use Rattle.certificate_parts.proofs.ItemLoops.{refused_since}
use Rattle.mixed_model.specs.Kinds.{first_of}
use Rattle.mixed_model.specs.declared.proof.MixedProof.{MixedProof}
use Rattle.mixed_model.specs.declared.proof.MixedRoot.{MixedRoot}
use Rattle.mixed_text.specs.Reading.{kinds_at, lines_at, mixed_body_at, mixed_root_at}

abbrev pub proof_of : Option ℕ → ℕ → List ℤ → List (List Label) → MixedRoot → MixedProof
proof_of bound weight prices labels root_part = record { bound = bound; weight = weight; prices = prices; labels = labels; root = root_part }

-- a proof is the same by its prices and its lists of labels
pub same_proof : (bound : Option ℕ) (weight : ℕ) (prices others : List ℤ) (labels lists : List (List Label)) (root_part : MixedRoot) → others ≡ prices → lists ≡ labels → proof_of bound weight prices labels root_part ≡ proof_of bound weight others lists root_part
same_proof bound weight prices others labels lists root_part a b = λ i. proof_of bound weight (sym a i) (sym b i) root_part

-- the root is none
pub no_root_part : (kinds : List Network) (s t : List ℕ × ℕ) (bound : Option ℕ) (n : ℕ) (g : Network) (refusal : CertText) → bound_at s ≡ Ok (bound, t) → n ≡ length kinds → g ≡ first_of kinds → or_refused (mixed_root_at n g t) ≡ Err refusal → or_refused (mixed_body_at kinds s) ≡ Err refusal
no_root_part kinds s t bound n g refusal first count one is =
    let found = refused_since (mixed_root_at n g t) refusal is in
    let none : mixed_root_at (length kinds) (first_of kinds) t ≡ Err found.0 = (λ i. mixed_root_at (sym count i) (sym one i) t) ∙ found.1 in
    rw (first, none) (ap (λ r. Err r) found.2)

module _ (kinds : List Network) (bound : Option ℕ) (root_part : MixedRoot) (weight : ℕ) (s : List ℕ × ℕ) (g : Network) (one : g ≡ first_of kinds) where
  pub no_prices : (refusal : CertText) → or_refused (prices_at g s) ≡ Err refusal → or_refused (lines_at kinds bound root_part weight s) ≡ Err refusal
  no_prices refusal is =
      let found = refused_since (prices_at g s) refusal is in
      let none : prices_at (first_of kinds) s ≡ Err found.0 = (λ i. prices_at (sym one i) s) ∙ found.1 in
      rw none (ap (λ r. Err r) found.2)

  module _ (t : List ℕ × ℕ) (prices : List ℤ) (first : prices_at g s ≡ Ok (prices, t)) where
    pub prices_read : prices_at (first_of kinds) s ≡ Ok (prices, t)
    prices_read = (λ i. prices_at (sym one i) s) ∙ first

    pub no_labels : (refusal : CertText) → or_refused (kinds_at 0 kinds t) ≡ Err refusal → or_refused (lines_at kinds bound root_part weight s) ≡ Err refusal
    no_labels refusal is =
        let found = refused_since (kinds_at 0 kinds t) refusal is in
        let none : kinds_at 0 kinds t ≡ Err found.0 = found.1 in
        let there = prices_read in
        rw (there, none) (ap (λ r. Err r) found.2)

    pub lines_are_read : (u : List ℕ × ℕ) (labels : List (List WrittenLabel)) → kinds_at 0 kinds t ≡ Ok (labels, u)
        → lines_at kinds bound root_part weight s ≡ Ok (record { bound = bound; root = root_part; weight = weight; prices = prices; labels = labels }, u)
    lines_are_read u labels second =
        let there = prices_read in
        rw (there, second) refl
