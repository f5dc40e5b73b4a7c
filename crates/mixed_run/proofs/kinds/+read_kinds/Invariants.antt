use Rattle.std.proofs.Common.{length}
use Rattle.mixed_run.proofs.kinds.+read_kinds.Given as goal

abbrev pub decreases-read_kinds : goal.decreases-read_kinds
decreases-read_kinds g l = length l.files.now
