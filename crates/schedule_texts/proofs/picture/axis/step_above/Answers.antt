use Rattle.std.proofs.Common.{◌∙◌, ◌*◌, ap, refl, sym, arith}
use Rattle.std.proofs.lemmas.Grind.{pow_more}
use Rattle.schedule_texts.specs.Axes.{step_above}
use Rattle.schedule_texts.proofs.Steps.{power_some, step_end, step_five, step_on, step_one, step_two}
use Rattle.schedule_texts.proofs.picture.axis.step_above.Goals as goal

pub returns-then-least-power-clause-value : goal.returns-then-least-power-clause-value
returns-then-least-power-clause-value c =
    sym (step_one c.loop.counter c.loop.power c.args.least (omega arith) (omega arith)) ∙ c.loop.invariant.same

pub returns-then-least-power-2-clause-value : goal.returns-then-least-power-2-clause-value
returns-then-least-power-2-clause-value c =
    sym (step_two c.loop.counter c.loop.power c.args.least (omega arith) (omega arith) (omega arith)) ∙ c.loop.invariant.same

pub returns-then-least-power-3-clause-value : goal.returns-then-least-power-3-clause-value
returns-then-least-power-3-clause-value c =
    sym (step_five c.loop.counter c.loop.power c.args.least (omega arith) (omega arith) (omega arith)) ∙ c.loop.invariant.same

pub loop-init : goal.loop-init
unfolding step_above
loop-init c = record { same = refl; power = refl }

pub loop-preserved : goal.loop-preserved
loop-preserved c = record {
  same = sym (step_on c.loop.counter c.loop.power c.args.least (omega arith) (omega arith)) ∙ c.loop.invariant.same;
  power = ap (λ p. p * 10) c.loop.invariant.power ∙ sym (pow_more 10 c.loop.counter);
}

pub returns-clause-value : goal.returns-clause-value
returns-clause-value c = step_end c.loop.counter c.loop.power c.args.least (omega arith) ∙ c.loop.invariant.same

pub returns-clause-some : goal.returns-clause-some
returns-clause-some c =
    let some = power_some c.loop.counter in
    omega (arith, some, c.loop.invariant.power)
