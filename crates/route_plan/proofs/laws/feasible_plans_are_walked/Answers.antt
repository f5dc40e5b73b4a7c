use Rattle.route_plan.proofs.Feasibly.{feasible_as_walked, walked_is_feasible}
use Rattle.route_plan.proofs.laws.feasible_plans_are_walked.Goals as goal

pub returns : goal.returns
returns c = λ g start stops w. (walked_is_feasible g start stops w, λ is. feasible_as_walked g start stops w is.0 is.1 is.2)
