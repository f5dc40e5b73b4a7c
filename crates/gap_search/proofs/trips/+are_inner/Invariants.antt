use Rattle.std.proofs.Common.{length}
use Rattle.gap_search.proofs.trips.+are_inner.Given as goal

abbrev pub decreases-are_inner : goal.decreases-are_inner
decreases-are_inner l = length l.inner.now
