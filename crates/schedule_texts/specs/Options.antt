-- A schedule, or none.
use Rattle.std.specs.Prelude.{Option, None, Some}
use Rattle.plan_schedule.specs.Schedules.{IsTimed}
use Rattle.plan_schedule.specs.declared.schedule.Schedule.{Schedule}

-- its denominator is one of an instance, where there is a schedule
abbrev pub AreTimed : Option Schedule → Type 0
AreTimed None = Unit {0}
AreTimed (Some s) = IsTimed s
