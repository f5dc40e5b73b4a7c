-- Reading the parts of a root and of a section: where a part is missing.
use Rattle.std.proofs.Common.{◌≡◌, ◌∙◌, ℕ, Bool, false, List, [], ◌∷◌, ◌++◌, Ok, Err, codes, refl, sym, ap}
use Rattle.ev_model.specs.Network.{Network}
use Rattle.ev_text.specs.Readers.{choice_at, so_many}
use Rattle.ev_text.specs.Scans.{whole_at, word_at}
use Rattle.ev_text.specs.declared.TextFault.{TextFault}
use Rattle.route_plan.specs.declared.plan.RoutePlan.{RoutePlan}
use Rattle.certificate_parts.specs.Refusals.{or_refused}
use Rattle.certificate_parts.specs.Limits.{most_items}
use Rattle.certificate_parts.specs.Reading.{basis_at, prices_at}
use Rattle.bound_certificate.specs.Reading.{column_at, root_at, section_at, section_behind, wide_at}
use Rattle.certificate_parts.specs.declared.cert_text.CertText.{CertText}
use Rattle.certificate_parts.proofs.ItemLoops.{refused_since}

pub no_prices : (g : Network) (s t : List ℕ × ℕ) (weight pairs labels : ℕ) (refusal : CertText) → section_at g s ≡ section_behind g weight pairs labels t → or_refused (prices_at g t) ≡ Err refusal → or_refused (section_at g s) ≡ Err refusal
no_prices g s t weight pairs labels refusal head is =
    let found = refused_since (prices_at g t) refusal is in
    let none : prices_at g t ≡ Err found.0 = found.1 in
    ap or_refused head ∙ (rw none (ap (λ r. Err r) found.2))

-- the word of a root is missing
pub no_root : (g : Network) (s t u : List ℕ × ℕ) (none exact : Bool) (fault : TextFault) → choice_at (codes "root none" ++ 10 ∷ []) s ≡ Ok (none, t) → none ≡ false → choice_at (codes "root exact ") t ≡ Ok (exact, u) → exact ≡ false
    → word_at (codes "root wide ") u ≡ Err fault → root_at g s ≡ Err fault
no_root g s t u none exact fault first not_none second not_exact missing =
    let a : choice_at (codes "root none" ++ 10 ∷ []) s ≡ Ok (false, t) = first ∙ ap (λ b. Ok (b, t)) not_none in
    let b : choice_at (codes "root exact ") t ≡ Ok (false, u) = second ∙ ap (λ b. Ok (b, u)) not_exact in
    rw (a, b, missing) refl

-- the basis is none
pub no_basis : (g : Network) (s t u v : List ℕ × ℕ) (count n : ℕ) (columns : List RoutePlan) (refusal : CertText) → whole_at most_items s ≡ Ok (count, t) → word_at (10 ∷ []) t ≡ Ok u → so_many count column_at u ≡ Ok (columns, v) → n ≡ count
    → or_refused (basis_at g n v) ≡ Err refusal → or_refused (wide_at g s) ≡ Err refusal
no_basis g s t u v count n columns refusal whole feed many same is =
    let found = refused_since (basis_at g n v) refusal is in
    let none : basis_at g count v ≡ Err found.0 = ap (λ k. basis_at g k v) (sym same) ∙ found.1 in
    rw (whole, feed, many, none) (ap (λ r. Err r) found.2)
