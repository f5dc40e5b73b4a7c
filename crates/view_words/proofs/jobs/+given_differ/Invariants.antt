use Rattle.std.proofs.Common.{length}
use Rattle.view_words.proofs.jobs.+given_differ.Given as goal

abbrev pub decreases-given_differ : goal.decreases-given_differ
decreases-given_differ c = length c.names.now
