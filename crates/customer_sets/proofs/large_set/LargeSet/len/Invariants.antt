use Rattle.std.specs.Prelude.{◌≡◌}
use Rattle.customer_sets.proofs.Digits.{count_to}
use Rattle.customer_sets.proofs.large_set.LargeSet.len.Given as goal

abbrev pub invariant-loop-i : goal.invariant-loop-i
invariant-loop-i l = l.count ≡ count_to l.self-inside.words l.i
