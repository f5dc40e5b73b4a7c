use Rattle.std.proofs.Common.{◌≡◌, drop}
use Rattle.plan_check.specs.Tallies.{first_missed}
use Rattle.plan_check.proofs.later.first_missed.Given as goal

abbrev pub invariant-loop-number : goal.invariant-loop-number
invariant-loop-number l = first_missed l.visits l.number (drop l.number l.customers) ≡ first_missed l.visits 0 l.customers
