use Rattle.plan_check.specs.LaterRules.{plans_by}
use Rattle.plan_check.proofs.LaterFaults.{told_first, told_none}
use Rattle.plan_check.proofs.later.fault_behind_walks.Goals as goal

pub returns-clause-first : goal.returns-clause-first
returns-clause-first g c = told_first c.args.inst.now (plans_by g.R.HasStops.stops_of c.args.routes.now) c.later_fault.result c.later_fault.ensures

pub returns-clause-none : goal.returns-clause-none
returns-clause-none g c = told_none c.args.inst.now (plans_by g.R.HasStops.stops_of c.args.routes.now) c.later_fault.result c.later_fault.ensures
