use Rattle.std.proofs.Common.{rules, arith}
use Rattle.ev_model.specs.Curve.{charge_time_in}
use Rattle.ev_model.proofs.examples.infeasible_plans.Goals as goal

pub returns-clause-past_the_limit : goal.returns-clause-past_the_limit
unfolding charge_time_in
returns-clause-past_the_limit c = λ feasible. omega (arith, feasible.in_time)

pub returns-clause-within_the_limit : goal.returns-clause-within_the_limit
unfolding charge_time_in
returns-clause-within_the_limit c = record { plan = search rules; battery = search rules; in_time = omega arith }
