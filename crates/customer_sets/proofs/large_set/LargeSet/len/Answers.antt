use Rattle.std.proofs.Common.{◌∙◌, ◌+◌, ap, length, subst, arith}
use Rattle.customer_sets.specs.SetBelow.{IsSetBelow}
use Rattle.customer_sets.proofs.Digits.{count_all, count_few, count_more, large_set}
use Rattle.customer_sets.proofs.large_set.LargeSet.len.Goals as goal

pub overflow_add-count : goal.overflow_add-count
overflow_add-count c =
    let more = count_more c.self.inside.words c.loop-i.i c.self.invariant c.loop-i-test.true in
    let few = count_few c.self.inside.words (c.loop-i.i + 1) in
    omega (arith, c.loop-i.invariant, more, few, c.loop-i-test.true)

pub loop-i-preserved : goal.loop-i-preserved
loop-i-preserved c =
    let more = count_more c.self.inside.words c.loop-i.i c.self.invariant c.loop-i-test.true in
    omega (arith, c.loop-i.invariant, more)

pub returns-clause-value : goal.returns-clause-value
returns-clause-value c =
    c.loop-i.invariant ∙ count_all c.self.inside.words c.loop-i.i (omega (arith, c.loop-i-test.false, c.loop-i.auto.i-end)) ∙ ap length c.self.view_is

pub returns-clause-set : goal.returns-clause-set
returns-clause-set c = subst (λ set. IsSetBelow 448 set) c.self.view_is (large_set c.self.inside.words)
