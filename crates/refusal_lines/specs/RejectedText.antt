-- The line of a fleet plan that breaks a rule.
use Rattle.std.specs.Prelude.{ℕ, ◌++◌, ◌∷◌, [], List, decimal, codes}
use Rattle.plan_check.specs.declared.fault.PlanFault.{PlanFault}
use Rattle.plan_check.specs.declared.fault.PlanFault.TheVariants as plan
use Rattle.report_lines.specs.Walks.{walk_text}

-- the number of the rule that a plan breaks, and the route, the customer or the stop that breaks it
abbrev pub rule_text : PlanFault → List ℕ
rule_text (plan.Walk route fault) =
    codes "1 route " ++ decimal route ++ codes " walk " ++ walk_text fault
rule_text (plan.Twice customer) = codes "2 customer " ++ decimal customer
rule_text (plan.Unserved customer) = codes "3 customer " ++ decimal customer
rule_text (plan.EmptyRoute route) = codes "4 route " ++ decimal route
rule_text (plan.Stray route at) = codes "5 route " ++ decimal route ++ codes " at " ++ decimal at

-- it is rejected by this rule
abbrev pub rejected_text : PlanFault → List ℕ
rejected_text fault = codes "rejected plan " ++ rule_text fault ++ 10 ∷ []
