-- Why plans aren't shown: a rule that they break, or want of memory.
use Rattle.std.specs.Prelude.{◌≡◌, Option, true}
use Rattle.ev_model.specs.Network.{Network}
use Rattle.fleet_steps.specs.PlanFile.{BreaksFirst}
use Rattle.plan_check.specs.declared.fault.LargeFault.{LargeFault}
use Rattle.plan_check.specs.declared.fault.LargeFault.TheVariants as large
use Rattle.route_plan.specs.declared.plan.FleetPlan.{FleetPlan}
use Rattle.view_words.specs.declared.form.PlanForm.{PlanForm}
use Rattle.evview_run.specs.ViewAnswer.{Breaks, is_of_part}
use Rattle.evview_run.specs.declared.held.HeldPlans.{HeldPlans}

-- by the form that the words name
abbrev pub IsUnshown : PlanForm → Network → HeldPlans → LargeFault → Type 0
IsUnshown form g held (large.Plan fault) = Breaks form g held fault
IsUnshown form g held large.Memory = Unit {0}

-- of a part of a fleet plan
abbrev pub IsPartUnfit : Network → Option FleetPlan → LargeFault → Type 0
IsPartUnfit g plan (large.Plan fault) = BreaksFirst g plan fault × (is_of_part fault ≡ true)
IsPartUnfit g plan large.Memory = Unit {0}
