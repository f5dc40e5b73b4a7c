-- Reading the text of a near proof as a whole.
use Rattle.std.proofs.Common.{◌≡◌, ◌≢◌, ◌∙◌, ℕ, ◌≤◌, false, List, [], ◌∷◌, ◌++◌, Option, None, Some, IfSome, length, Ok, Err, refl, sym, ap, codes}
use Rattle.ev_model.specs.Network.{Network}
use Rattle.ev_text.specs.Readers.{so_many, whole_text}
use Rattle.ev_text.specs.Scans.{and_then, rest_of, whole_at, word_at}
use Rattle.ev_text.specs.declared.TextFault.{TextFault}
use Rattle.ev_text.specs.declared.TextFault.TheVariants.{Word}
use Rattle.ev_text.proofs.WholeLaws.{whole_text-end, whole_text-more}
use Rattle.certificate_parts.specs.Limits.{greatest_bound, most_bytes, most_items}
use Rattle.certificate_parts.specs.Ranges.{customer_count}
use Rattle.certificate_parts.specs.Reading.{bound_at}
use Rattle.certificate_parts.specs.Refusals.{as_refusal, or_refused}
use Rattle.certificate_parts.specs.WrittenRanges.{BoundIs}
use Rattle.certificate_parts.specs.declared.cert_text.CertText.{CertText}
use Rattle.certificate_parts.proofs.BasisLines.{reads-bound}
use Rattle.certificate_parts.proofs.ItemLoops.{refused_since}
use Rattle.certificate_parts.proofs.TextLaws.{read_on}
use Rattle.route_plan.specs.declared.plan.RoutePlan.{RoutePlan}
use Rattle.near_proof.specs.Ranges.{tight_count}
use Rattle.near_proof.specs.declared.proof.NearLabel.{NearLabel}
use Rattle.near_proof.specs.declared.proof.NearProof.{NearProof}
use Rattle.near_text.specs.NearIn.{has_other_version, near_in}
use Rattle.near_text.specs.Reading.{lines_at, near_label_at, near_proof_at, nears_at, prices_at, tight_at}
use Rattle.near_text.specs.Written.{WrittenNear, WrittenNearLabel}

pub bound_in_range : (s t : List ℕ × ℕ) (bound : Option ℕ) → bound_at s ≡ Ok (bound, t) → IfSome bound (λ b. b ≤ greatest_bound)
bound_in_range s t bound is = at bound (reads-bound.standing s t bound is).0
  where
    at : (b : Option ℕ) → BoundIs b → IfSome b (λ n. n ≤ greatest_bound)
    at None is = tt
    at (Some n) is = is

abbrev pub proof_of : Option ℕ → ℕ → List ℕ → List (List ℕ) → List NearLabel → List RoutePlan → NearProof
proof_of bound weight prices sets labels tight = record { bound = bound; weight = weight; prices = prices; sets = sets; labels = labels; tight = tight }

-- a proof is the same by each of its parts
pub same_proof : (bound : Option ℕ) (weight : ℕ) (prices prices' : List ℕ) (sets sets' : List (List ℕ)) (labels labels' : List NearLabel) (tight tight' : List RoutePlan) → prices' ≡ prices → sets' ≡ sets → labels' ≡ labels → tight' ≡ tight
    → proof_of bound weight prices sets labels tight ≡ proof_of bound weight prices' sets' labels' tight'
same_proof bound weight prices prices' sets sets' labels labels' tight tight' a b c d = λ i. proof_of bound weight (sym a i) (sym b i) (sym c i) (sym d i)

module _ (g : Network) (bound : Option ℕ) (weight count : ℕ) (s : List ℕ × ℕ) where
  pub no_prices : (refusal : CertText) → or_refused (prices_at g s) ≡ Err refusal → or_refused (lines_at g bound weight count s) ≡ Err refusal
  no_prices refusal is =
      let found = refused_since (prices_at g s) refusal is in
      let none : prices_at g s ≡ Err found.0 = found.1 in
      rw none (ap (λ r. Err r) found.2)

  module _ (t : List ℕ × ℕ) (prices : List ℕ) (first : prices_at g s ≡ Ok (prices, t)) where
    pub no_sets : (refusal : CertText) → or_refused (nears_at g (customer_count g) 0 t) ≡ Err refusal → or_refused (lines_at g bound weight count s) ≡ Err refusal
    no_sets refusal is =
        let found = refused_since (nears_at g (customer_count g) 0 t) refusal is in
        let none : nears_at g (customer_count g) 0 t ≡ Err found.0 = found.1 in
        rw (first, none) (ap (λ r. Err r) found.2)

    module _ (u : List ℕ × ℕ) (sets : List (List ℕ)) (second : nears_at g (customer_count g) 0 t ≡ Ok (sets, u)) where
      pub no_labels : (refusal : CertText) → or_refused (so_many count (near_label_at g) u) ≡ Err refusal → or_refused (lines_at g bound weight count s) ≡ Err refusal
      no_labels refusal is =
          let found = refused_since (so_many count (near_label_at g) u) refusal is in
          let none : so_many count (near_label_at g) u ≡ Err found.0 = found.1 in
          rw (first, second, none) (ap (λ r. Err r) found.2)

      module _ (v : List ℕ × ℕ) (labels : List WrittenNearLabel) (third : so_many count (near_label_at g) u ≡ Ok (labels, v)) (many : ℕ) (many_is : many ≡ tight_count (customer_count g) bound) where
        pub no_tight : (refusal : CertText) → or_refused (so_many many tight_at v) ≡ Err refusal → or_refused (lines_at g bound weight count s) ≡ Err refusal
        no_tight refusal is =
            let found = refused_since (so_many many tight_at v) refusal is in
            let none : so_many (tight_count (customer_count g) bound) tight_at v ≡ Err found.0 = ap (λ (n : ℕ). so_many n tight_at v) (sym many_is) ∙ found.1 in
            rw (first, second, third, none) (ap (λ r. Err r) found.2)

        pub lines_are_read : (w : List ℕ × ℕ) (tight : List RoutePlan) → so_many many tight_at v ≡ Ok (tight, w)
            → lines_at g bound weight count s ≡ Ok (record { bound = bound; weight = weight; prices = prices; sets = sets; labels = labels; tight = tight }, w)
        lines_are_read w tight is =
            let last : so_many (tight_count (customer_count g) bound) tight_at v ≡ Ok (tight, w) = ap (λ (n : ℕ). so_many n tight_at v) (sym many_is) ∙ is in
            rw (first, second, third, last) refl

-- the lines behind the head are none
pub no_lines : (g : Network) (s s1 s2 s3 s4 s5 s6 s7 : List ℕ × ℕ) (bound : Option ℕ) (weight count : ℕ) (refusal : CertText) → word_at (codes "evroute near 1" ++ 10 ∷ []) s ≡ Ok s1 → bound_at s1 ≡ Ok (bound, s2) → word_at (codes "section ") s2 ≡ Ok s3
    → whole_at 1 s3 ≡ Ok (weight, s4) → word_at (codes " ") s4 ≡ Ok s5 → whole_at most_items s5 ≡ Ok (count, s6) → word_at (10 ∷ []) s6 ≡ Ok s7 → or_refused (lines_at g bound weight count s7) ≡ Err refusal → or_refused (near_proof_at g s) ≡ Err refusal
no_lines g s s1 s2 s3 s4 s5 s6 s7 bound weight count refusal a b c d e f h is =
    let found = refused_since (lines_at g bound weight count s7) refusal is in
    let none : lines_at g bound weight count s7 ≡ Err found.0 = found.1 in
    rw (a, b, c, d, e, f, h, none) (ap (λ r. Err r) found.2)

module _ (g : Network) (bytes : List ℕ) (within : length bytes ≤ most_bytes) (own : has_other_version bytes ≡ false) (s : List ℕ × ℕ) (start : s ≡ (bytes, 0)) where
  pub all_is_read : (t : List ℕ × ℕ) (w : WrittenNear) → near_proof_at g s ≡ Ok (w, t) → rest_of t ≡ [] → near_in g bytes ≡ Ok w
  all_is_read t w found none =
      read_on 101 (codes "vroute near ") 1 (near_proof_at g) bytes within own
      ∙ ap (λ r. or_refused (and_then r whole_text)) (ap (near_proof_at g) (sym start) ∙ found)
      ∙ ap or_refused (whole_text-end w t none)

  pub fault_inside : (refusal : CertText) → or_refused (near_proof_at g s) ≡ Err refusal → near_in g bytes ≡ Err refusal
  fault_inside refusal is =
      let found = refused_since (near_proof_at g s) refusal is in
      read_on 101 (codes "vroute near ") 1 (near_proof_at g) bytes within own
      ∙ ap (λ r. or_refused (and_then r whole_text)) (ap (near_proof_at g) (sym start) ∙ found.1)
      ∙ ap (λ r. Err r) found.2

  pub fault_behind : (t : List ℕ × ℕ) (w : WrittenNear) (fault : TextFault) → near_proof_at g s ≡ Ok (w, t) → (rest_of t ≢ []) × (fault ≡ Word t.1) → near_in g bytes ≡ Err (as_refusal fault)
  fault_behind t w fault found (some, is) =
      read_on 101 (codes "vroute near ") 1 (near_proof_at g) bytes within own
      ∙ ap (λ r. or_refused (and_then r whole_text)) (ap (near_proof_at g) (sym start) ∙ found)
      ∙ ap or_refused (whole_text-more w t some)
      ∙ ap (λ f. Err (as_refusal f)) (sym is)
