-- What is told of the rules behind the walks.
use Rattle.std.proofs.Common.{◌≡◌, List, Option, None, Some, sym}
use Rattle.std.specs.Prelude.{IfNone, IfSome}
use Rattle.ev_model.specs.Network.{Network}
use Rattle.route_plan.specs.declared.plan.RoutePlan.{RoutePlan}
use Rattle.plan_check.specs.FirstFaults.{later_fault}
use Rattle.plan_check.specs.LaterRules.{IsFirstLater, KeepsLater}
use Rattle.plan_check.specs.declared.fault.PlanFault.{PlanFault}
use Rattle.plan_check.proofs.Firsts.{later_first, none_later}

pub told_first : (g : Network) (plans : List RoutePlan) (found : Option PlanFault) → found ≡ later_fault g plans → IfSome found (IsFirstLater g plans)
told_first g plans None is = tt
told_first g plans (Some fault) is = later_first g plans fault (sym is)

pub told_none : (g : Network) (plans : List RoutePlan) (found : Option PlanFault) → found ≡ later_fault g plans → IfNone found (KeepsLater g plans)
told_none g plans None is = none_later g plans (sym is)
told_none g plans (Some fault) is = tt
