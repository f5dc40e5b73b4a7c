use Rattle.std.proofs.Common.{◌++◌, ℕ, List, take}
use Rattle.ev_model.specs.Fleet.{customers_of}
use Rattle.plan_check.specs.Tallies.{Tallies}
use Rattle.plan_check.proofs.tally.count_route.Given as goal

abbrev pub invariant-loop-stop : goal.invariant-loop-stop
invariant-loop-stop l =
    (nodes : List ℕ) → Tallies l.inst l.initial.visits nodes → Tallies l.inst l.visits (nodes ++ customers_of l.inst (take l.stop-index l.stops))
