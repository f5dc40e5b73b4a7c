use Rattle.charge_curve.proofs.Denominators.{past_slope, with_slope_is}
use Rattle.charge_curve.proofs.denominator.with_slope.Goals as goal

pub returns-in-Some-clause-some : goal.returns-in-Some-clause-some
returns-in-Some-clause-some c = (
  c.in-Some.ensures.positive,
  c.in-Some.ensures.within,
  with_slope_is c.args.from c.args.to c.args.denominator c.reduced_denominator-reduced.result c.in-Some.common
      c.reduced_denominator-reduced.ensures.exact c.in-Some.ensures.multiple,
)

pub returns-in-None-clause-none : goal.returns-in-None-clause-none
returns-in-None-clause-none c =
    past_slope c.args.from c.args.to c.args.denominator c.reduced_denominator-reduced.result c.args.limit
    c.reduced_denominator-reduced.ensures.exact c.in-None.ensures.past
