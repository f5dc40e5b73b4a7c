use Rattle.rounding_law.proofs.Whole.{plan_times_at_most, plan_times_exact, some_kths}
use Rattle.rounding_law.proofs.laws.rounded_times_add_up.Goals as goal

pub returns-clause-at_most : goal.returns-clause-at_most
returns-clause-at_most c = λ g k start stops network feasible. plan_times_at_most g k start stops (some_kths g k start stops feasible) network feasible.battery

pub returns-clause-exact : goal.returns-clause-exact
returns-clause-exact c = λ g k start stops network feasible free. plan_times_exact g k start stops (some_kths g k start stops feasible) network feasible.battery free
