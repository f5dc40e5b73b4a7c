use Rattle.std.proofs.Common.{◌≡◌, ◌++◌, drop}
use Rattle.ev_model.specs.Fleet.{customers_of}
use Rattle.route_improve.proofs.begin.customers_of.Given as goal

abbrev pub invariant-loop-stop : goal.invariant-loop-stop
invariant-loop-stop l = l.order.items ++ customers_of l.inst (drop l.stop-index l.stops) ≡ customers_of l.inst l.stops
