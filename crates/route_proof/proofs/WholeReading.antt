-- Reading the text of a proof as a whole.
use Rattle.std.proofs.Common.{◌≡◌, ◌≢◌, ◌∙◌, ℕ, ◌≤◌, false, List, [], ◌∷◌, ◌++◌, Option, length, Ok, Err, sym, ap, codes}
use Rattle.ev_model.specs.Network.{Network}
use Rattle.ev_text.specs.Readers.{whole_text}
use Rattle.ev_text.specs.Scans.{and_then, rest_of, word_at}
use Rattle.ev_text.specs.declared.TextFault.{TextFault}
use Rattle.ev_text.specs.declared.TextFault.TheVariants.{Word}
use Rattle.ev_text.proofs.WholeLaws.{whole_text-end, whole_text-more}
use Rattle.certificate_parts.specs.Limits.{most_bytes}
use Rattle.certificate_parts.specs.Refusals.{as_refusal, or_refused}
use Rattle.certificate_parts.specs.declared.cert_text.CertText.{CertText}
use Rattle.certificate_parts.proofs.ItemLoops.{refused_since}
use Rattle.certificate_parts.proofs.TextLaws.{read_on}
use Rattle.route_plan.specs.declared.plan.RoutePlan.{RoutePlan}
use Rattle.route_proof.specs.declared.proof.RouteProof.{RouteProof}
use Rattle.route_proof.specs.ProofIn.{has_other_version, proof_in}
use Rattle.route_proof.specs.Reading.{labels_at, listed_at, proof_at}

-- the labels are none
pub no_labels : (g : Network) (route : List ℕ) (s t u : List ℕ × ℕ) (plan : Option RoutePlan) (refusal : CertText) → word_at (codes "evroute proof 1" ++ 10 ∷ []) s ≡ Ok t → listed_at t ≡ Ok (plan, u)
    → or_refused (labels_at g route u) ≡ Err refusal → or_refused (proof_at g route s) ≡ Err refusal
no_labels g route s t u plan refusal line first is =
    let found = refused_since (labels_at g route u) refusal is in
    let none : labels_at g route u ≡ Err found.0 = found.1 in
    rw (line, first, none) (ap (λ r. Err r) found.2)

module _ (g : Network) (route bytes : List ℕ) (within : length bytes ≤ most_bytes) (own : has_other_version bytes ≡ false) (s : List ℕ × ℕ) (start : s ≡ (bytes, 0)) where
  pub all_is_read : (t : List ℕ × ℕ) (p : RouteProof) → proof_at g route s ≡ Ok (p, t) → rest_of t ≡ [] → proof_in g route bytes ≡ Ok p
  all_is_read t p found none =
      read_on 101 (codes "vroute proof ") 1 (proof_at g route) bytes within own
      ∙ ap (λ r. or_refused (and_then r whole_text)) (ap (proof_at g route) (sym start) ∙ found)
      ∙ ap or_refused (whole_text-end p t none)

  pub fault_inside : (refusal : CertText) → or_refused (proof_at g route s) ≡ Err refusal → proof_in g route bytes ≡ Err refusal
  fault_inside refusal is =
      let found = refused_since (proof_at g route s) refusal is in
      read_on 101 (codes "vroute proof ") 1 (proof_at g route) bytes within own
      ∙ ap (λ r. or_refused (and_then r whole_text)) (ap (proof_at g route) (sym start) ∙ found.1)
      ∙ ap (λ r. Err r) found.2

  pub fault_behind : (t : List ℕ × ℕ) (p : RouteProof) (fault : TextFault) → proof_at g route s ≡ Ok (p, t) → (rest_of t ≢ []) × (fault ≡ Word t.1) → proof_in g route bytes ≡ Err (as_refusal fault)
  fault_behind t p fault found (some, is) =
      read_on 101 (codes "vroute proof ") 1 (proof_at g route) bytes within own
      ∙ ap (λ r. or_refused (and_then r whole_text)) (ap (proof_at g route) (sym start) ∙ found)
      ∙ ap or_refused (whole_text-more p t some)
      ∙ ap (λ f. Err (as_refusal f)) (sym is)
