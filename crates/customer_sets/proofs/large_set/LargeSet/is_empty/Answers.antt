use Rattle.std.proofs.Common.{◌∙◌, refl, sym, arith}
use Rattle.std.proofs.lemmas.Bool.{false≢true}
use Rattle.customer_sets.proofs.Digits.{empty_words, words_empty}
use Rattle.customer_sets.proofs.large_set.LargeSet.is_empty.Goals as goal

pub returns-then-self-i-ne0 : goal.returns-then-self-i-ne0
returns-then-self-i-ne0 c = (
  λ no_member. absurd (false≢true no_member),
  λ none. absurd (c.if-self-i-ne0.true (empty_words c.self.inside.words c.loop-i.i c.self.invariant c.loop-i-test.true (c.self.view_is ∙ none))),
)

pub returns : goal.returns
returns c = (
  λ is. sym c.self.view_is ∙ words_empty c.self.inside.words (λ k low. c.loop-i.invariant k (omega (arith, low, c.loop-i-test.false))),
  λ none. refl,
)
