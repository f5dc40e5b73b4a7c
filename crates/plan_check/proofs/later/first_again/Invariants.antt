use Rattle.std.proofs.Common.{◌≡◌, drop}
use Rattle.plan_check.specs.Tallies.{first_again}
use Rattle.plan_check.proofs.later.first_again.Given as goal

abbrev pub invariant-loop-number : goal.invariant-loop-number
invariant-loop-number l = first_again l.visits l.number (drop l.number l.customers) ≡ first_again l.visits 0 l.customers
