use Rattle.std.proofs.Common.{◌≡◌, drop}
use Rattle.std.specs.List.{list_any}
use Rattle.plan_check.specs.FirstFaults.{serves}
use Rattle.plan_check.proofs.later.has_customer.Given as goal

abbrev pub invariant-loop-stop : goal.invariant-loop-stop
invariant-loop-stop l = list_any (serves l.inst) (drop l.stop-index l.stops) ≡ list_any (serves l.inst) l.stops
