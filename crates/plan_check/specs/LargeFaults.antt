-- Why plans for any number of customers are refused.
use Rattle.std.specs.Prelude.{List}
use Rattle.ev_model.specs.Network.{Network}
use Rattle.route_plan.specs.declared.plan.RoutePlan.{RoutePlan}
use Rattle.plan_check.specs.FleetRules.{IsFirstBroken}
use Rattle.plan_check.specs.declared.fault.LargeFault.{LargeFault}
use Rattle.plan_check.specs.declared.fault.LargeFault.TheVariants.{Plan, Memory}

-- their first broken rule, or want of memory
abbrev pub IsLargeFault : Network → List RoutePlan → LargeFault → Type 0
IsLargeFault g plans (Plan fault) = IsFirstBroken g plans fault
IsLargeFault g plans Memory = Unit {0}
