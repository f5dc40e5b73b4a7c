use Rattle.rounding_law.proofs.Whole.{fastest_whole_is_fastest, no_whole_plan_no_plan}
use Rattle.rounding_law.proofs.laws.whole_plans_suffice.Goals as goal

pub returns-clause-fastest : goal.returns-clause-fastest
returns-clause-fastest c = fastest_whole_is_fastest

pub returns-clause-none : goal.returns-clause-none
returns-clause-none c = no_whole_plan_no_plan
