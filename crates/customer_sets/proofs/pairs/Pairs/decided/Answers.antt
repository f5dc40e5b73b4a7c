use Rattle.std.proofs.Common.{refl, sym, subst, arith, inl, inr}
use Rattle.std.proofs.lemmas.Bool.{cases_eq}
use Rattle.customer_sets.specs.Pairs.{IsDecidedFrom}
use Rattle.customer_sets.proofs.pairs.Pairs.decided.Goals as goal

pub loop-i-preserved : goal.loop-i-preserved
loop-i-preserved c = λ i some below. elim (cases_eq i c.loop-i.i) [
  | inl same ↦ subst (λ x. IsDecidedFrom c.args.self.now x) (sym same) (c.if-not-decided_from.ensures.0 refl)
  | inr apart ↦ c.loop-i.invariant i some (omega (arith, below, apart))
]
