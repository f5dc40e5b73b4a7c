use Rattle.std.proofs.Common.{◌≡◌, [], drop}
use Rattle.certificate_check.specs.Routes.{served_once}
use Rattle.certificate_check.proofs.routes.served_once.Given as goal

abbrev pub invariant-loop-stop : goal.invariant-loop-stop
invariant-loop-stop l = served_once l.inst l.set (drop l.stop-index l.stops) ≡ served_once l.inst [] l.stops
