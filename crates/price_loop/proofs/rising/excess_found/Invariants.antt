use Rattle.price_loop.specs.Rising.{HasExcess}
use Rattle.price_loop.proofs.rising.excess_found.Given as goal

abbrev pub invariant-loop-route : goal.invariant-loop-route
invariant-loop-route g l = HasExcess (g.E.Earners.problem l.earners) l.of l.most
