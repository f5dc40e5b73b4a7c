use Rattle.std.proofs.Common.{◌∙◌, sym}
use Rattle.piece_fn.proofs.Levels.{first-level_times, is_value}
use Rattle.piece_fn.proofs.Values.{first_level-get_or, first_time-get_or}
use Rattle.piece_fn.proofs.piece_fn.PieceFnLabelValue.least.Goals as goal

pub returns-clause-level : goal.returns-clause-level
returns-clause-level c = rw (c.points.ensures.value) (first_level-get_or c.args.self.now (0, 0) c.points.ensures.valid ∙ sym (first-level_times c.args.self.now))

pub returns-clause-time : goal.returns-clause-time
returns-clause-time c = rw (c.points.ensures.value) (first_time-get_or c.args.self.now (0, 0) c.points.ensures.valid)

pub returns-clause-valid : goal.returns-clause-valid
returns-clause-valid c = is_value c.args.self.now c.points.ensures.valid
