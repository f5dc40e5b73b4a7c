use Rattle.std.proofs.Common.{◌≡◌}
use Rattle.tests_master.proofs.instances.forbidding.Given as goal

abbrev pub invariant-loop-i : goal.invariant-loop-i
invariant-loop-i l = l.pairs.customers ≡ l.fn.before.customers
