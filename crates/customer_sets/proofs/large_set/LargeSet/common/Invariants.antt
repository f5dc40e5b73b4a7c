use Rattle.customer_sets.proofs.Digits.{AreShared}
use Rattle.customer_sets.proofs.large_set.LargeSet.common.Given as goal

abbrev pub invariant-loop-i : goal.invariant-loop-i
invariant-loop-i l = AreShared l.initial.words l.other-inside.words l.words l.i
