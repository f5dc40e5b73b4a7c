use Rattle.std.proofs.Common.{length}
use Rattle.call_words.proofs.words.+are_different.Given as goal

abbrev pub decreases-are_different : goal.decreases-are_different
decreases-are_different c = length c.names.now
