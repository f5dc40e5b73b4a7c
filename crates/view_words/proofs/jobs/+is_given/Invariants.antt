use Rattle.std.proofs.Common.{length}
use Rattle.view_words.proofs.jobs.+is_given.Given as goal

abbrev pub decreases-is_given : goal.decreases-is_given
decreases-is_given c = length c.names.now
