use Rattle.price_loop.specs.Rising.{AreFixed}
use Rattle.price_loop.proofs.rising.rise_watched.Given as goal

abbrev pub invariant-loop-customer : goal.invariant-loop-customer
invariant-loop-customer g l = AreFixed (g.E.Earners.problem l.earners) l.of.items l.customer
