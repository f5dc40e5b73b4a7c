use Rattle.std.proofs.Common.{refl, subst, sym, arith}
use Rattle.std.proofs.lemmas.Bool.{false≢true}
use Rattle.customer_sets.specs.CustSet.{IsWithin}
use Rattle.customer_sets.specs.LargeMembers.{large_members}
use Rattle.customer_sets.proofs.Digits.{within_words, words_within}
use Rattle.customer_sets.proofs.large_set.LargeSet.is_subset.Goals as goal

pub returns-then-self-i : goal.returns-then-self-i
returns-then-self-i c = (
  λ other. absurd (false≢true other),
  λ within.
      let last = subst (λ large. IsWithin c.args.self large) (sym c.other.view_is) within in
      let both = subst (λ small. IsWithin small (large_members c.other.inside.words)) (sym c.self.view_is) last in
      absurd (c.if-self-i.true (within_words c.self.inside.words c.other.inside.words c.loop-i.i c.self.invariant c.loop-i-test.true both)),
)

pub returns : goal.returns
returns c = (
  λ is.
      let within = words_within c.self.inside.words c.other.inside.words (λ k low. c.loop-i.invariant k (omega (arith, low, c.loop-i-test.false))) in
      let first = subst (λ small. IsWithin small (large_members c.other.inside.words)) c.self.view_is within in
      subst (λ large. IsWithin c.args.self large) c.other.view_is first,
  λ within. refl,
)
