use Rattle.std.proofs.Common.{arith}
use Rattle.customer_sets.specs.LargeRestored.{words_of-view}
use Rattle.customer_sets.proofs.large_set.LargeSetPartialEq.eq.Goals as goal

pub returns : goal.returns
returns c = grind (arith, words_of-view)
