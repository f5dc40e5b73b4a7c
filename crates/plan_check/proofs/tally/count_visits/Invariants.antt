use Rattle.std.proofs.Common.{map, take}
use Rattle.ev_model.specs.Fleet.{all_customers}
use Rattle.plan_check.specs.Tallies.{Tallies}
use Rattle.plan_check.proofs.tally.count_visits.Given as goal

abbrev pub invariant-loop-plan : goal.invariant-loop-plan
invariant-loop-plan g l = Tallies l.inst l.visits (all_customers l.inst (map g.R.HasStops.stops_of (take l.plan-index l.routes)))
