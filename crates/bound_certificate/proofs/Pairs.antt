-- Going through the places of a route, one after another.
use Rattle.std.proofs.Common.{◌≡◌, ◌∙◌, ℕ, suc, ◌+◌, List, ◌++◌, sym, ap, append_assoc}
use Rattle.customer_sets.specs.Pairs.{ForbiddenPairs}
use Rattle.ev_model.specs.Network.{Network}
use Rattle.certificate_parts.specs.Ranges.{customer_count}
use Rattle.bound_certificate.specs.Written.{if_forbidden, pairs_after, pairs_from}

module _ (g : Network) (p : ForbiddenPairs) (front items all : List (ℕ × ℕ)) where
  -- one place more follows a place
  pub next_place : (a b left fewer : ℕ) → left ≡ suc fewer → items ≡ front ++ if_forbidden g p a b → front ++ pairs_after g p a b left ≡ all → items ++ pairs_after g p a (b + 1) fewer ≡ all
  next_place a b left fewer one is told =
      ap (λ xs. xs ++ pairs_after g p a (b + 1) fewer) is
      ∙ append_assoc front (if_forbidden g p a b) (pairs_after g p a (b + 1) fewer)
      ∙ ap (λ n. front ++ pairs_after g p a b n) (sym one)
      ∙ told

  -- one place more is followed
  pub next_first : (a left fewer : ℕ) → left ≡ suc fewer → items ≡ front ++ pairs_after g p a 0 (customer_count g + 1) → front ++ pairs_from g p a left ≡ all → items ++ pairs_from g p (a + 1) fewer ≡ all
  next_first a left fewer one is told =
      ap (λ xs. xs ++ pairs_from g p (a + 1) fewer) is
      ∙ append_assoc front (pairs_after g p a 0 (customer_count g + 1)) (pairs_from g p (a + 1) fewer)
      ∙ ap (λ n. front ++ pairs_from g p a n) (sym one)
      ∙ told
