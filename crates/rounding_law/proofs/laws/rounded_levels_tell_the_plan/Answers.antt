use Rattle.rounding_law.proofs.Only.{only_rounding}
use Rattle.rounding_law.proofs.Whole.{some_kths}
use Rattle.rounding_law.proofs.laws.rounded_levels_tell_the_plan.Goals as goal

pub returns : goal.returns
returns c = λ g k j start stops whole feasible lt plan is.
    only_rounding g k j start stops whole (some_kths g k start stops feasible) lt feasible.plan feasible.battery plan is
