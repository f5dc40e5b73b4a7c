use Rattle.std.proofs.Common.{◌≡◌, ◌∙◌, ℕ, true, sym, ap, subst, arith}
use Rattle.std.proofs.lemmas.Grind.{common_steps}
use Rattle.std.proofs.lemmas.Bool.{false≢true}
use Rattle.customer_sets.specs.CustSet.{IsWithin}
use Rattle.customer_sets.specs.Pairs.{allows_of, ForbiddenPairs, IsPairs}
use Rattle.customer_sets.proofs.PairRows.{home_within, pairs_within, row_tells}
use Rattle.customer_sets.proofs.pairs.Pairs.within.Goals as goal

pub returns-then-not-is_subset : goal.returns-then-not-is_subset
returns-then-not-is_subset c = (
  λ no. absurd (false≢true no),
  λ less.
      let p : ForbiddenPairs = record { customers = c.self.inside.customers; after = c.self.inside.after; home = c.self.inside.home } in
      let q : ForbiddenPairs = record { customers = c.other.inside.customers; after = c.other.inside.after; home = c.other.inside.home } in
      let first = subst (λ (r : ForbiddenPairs). (a b : ℕ) → allows_of r a b ≡ true → allows_of c.args.self.now a b ≡ true) (sym c.other.view_is) less in
      let both = subst (λ (r : ForbiddenPairs). (a b : ℕ) → allows_of q a b ≡ true → allows_of r a b ≡ true) (sym c.self.view_is) first in
      sym c.if-not-is_subset.true ∙ c.is_subset.ensures.1 (row_tells p q c.loop-place.place c.index-self-place.result c.index-other-place.result c.self.invariant c.other.invariant c.loop-place-test.true both),
)

pub returns : goal.returns
returns c =
    let is = subst (λ (r : ForbiddenPairs). IsPairs r) c.self.view_is c.self.invariant in
    let own = ap (λ (r : ForbiddenPairs). r.home) c.self.view_is in
    let theirs = ap (λ (r : ForbiddenPairs). r.home) c.other.view_is in (
      λ yes.
          let inside = c.is_subset-2.ensures.0 yes in
          let ends = subst (λ set. IsWithin c.args.self.now.home set) theirs (subst (λ set. IsWithin set c.other.inside.home) own inside) in
          pairs_within c.args.self.now c.args.other.now (λ a low. c.loop-place.invariant a (omega (arith, low, c.loop-place-test.false))) ends is,
      λ less.
          let ends = home_within c.args.self.now c.args.other.now less in
          c.is_subset-2.ensures.1 (subst (λ set. IsWithin set c.other.inside.home) (sym own) (subst (λ set. IsWithin c.args.self.now.home set) (sym theirs) ends)),
    )

pub loop-place-preserved : goal.loop-place-preserved
loop-place-preserved = grind (arith, common_steps)
