use Rattle.route_plan.proofs.PlanRanges.{feasible_fits}
use Rattle.route_plan.proofs.feasible.a_feasible_plan_fits_a_text.Goals as goal

pub returns : goal.returns
returns c = feasible_fits
