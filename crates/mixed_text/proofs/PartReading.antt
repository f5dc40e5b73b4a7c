-- Reading the parts of the root: where a part is missing.
use Rattle.std.proofs.Common.{◌≡◌, ◌∙◌, ℕ, Bool, false, List, [], ◌∷◌, ◌++◌, Ok, Err, codes, refl, sym, ap}
use Rattle.ev_model.specs.Network.{Network}
use Rattle.ev_text.specs.Readers.{choice_at, so_many}
use Rattle.ev_text.specs.Scans.{whole_at, word_at}
use Rattle.ev_text.specs.declared.TextFault.{TextFault}
use Rattle.certificate_parts.specs.Limits.{most_items}
use Rattle.certificate_parts.specs.Reading.{basis_at}
use Rattle.certificate_parts.specs.Refusals.{or_refused}
use Rattle.certificate_parts.specs.declared.cert_text.CertText.{CertText}
use Rattle.certificate_parts.proofs.ItemLoops.{refused_since}
use Rattle.mixed_model.specs.declared.proof.MixedRoute.{MixedRoute}
use Rattle.mixed_text.specs.Reading.{mixed_column_at, mixed_root_at, mixed_wide_at}

module _ (kinds : ℕ) (g : Network) where
  -- the word of a root is missing
  pub no_root : (s t u : List ℕ × ℕ) (none exact : Bool) (fault : TextFault) → choice_at (codes "root none" ++ 10 ∷ []) s ≡ Ok (none, t) → none ≡ false → choice_at (codes "root exact ") t ≡ Ok (exact, u) → exact ≡ false
      → word_at (codes "root wide ") u ≡ Err fault → mixed_root_at kinds g s ≡ Err fault
  no_root s t u none exact fault first not_none second not_exact missing =
      let a : choice_at (codes "root none" ++ 10 ∷ []) s ≡ Ok (false, t) = first ∙ ap (λ b. Ok (b, t)) not_none in
      let b : choice_at (codes "root exact ") t ≡ Ok (false, u) = second ∙ ap (λ b. Ok (b, u)) not_exact in
      rw (a, b, missing) refl

  -- the basis is none
  pub no_basis : (s t u v : List ℕ × ℕ) (many n : ℕ) (columns : List MixedRoute) (refusal : CertText) → whole_at most_items s ≡ Ok (many, t) → word_at (10 ∷ []) t ≡ Ok u → so_many many (mixed_column_at kinds) u ≡ Ok (columns, v) → n ≡ many
      → or_refused (basis_at g n v) ≡ Err refusal → or_refused (mixed_wide_at kinds g s) ≡ Err refusal
  no_basis s t u v many n columns refusal whole feed all same is =
      let found = refused_since (basis_at g n v) refusal is in
      let none : basis_at g many v ≡ Err found.0 = ap (λ k. basis_at g k v) (sym same) ∙ found.1 in
      rw (whole, feed, all, none) (ap (λ r. Err r) found.2)
