use Rattle.mixed_fleet.specs.Gathered.{AreGathered}
use Rattle.mixed_fleet.proofs.earners.KindsEarnersEarners.earn.Given as goal

abbrev pub invariant-loop-kind : goal.invariant-loop-kind
invariant-loop-kind l = AreGathered l.kinds l.kind l.weight l.prices l.found.items l.lists.items
