use Rattle.dominance.proofs.Pieces.{last_level-get_or}
use Rattle.piece_fn.proofs.Walks.{some_point}
use Rattle.label_steps.proofs.paying.full_level.Goals as goal

pub returns-clause-value : goal.returns-clause-value
returns-clause-value c =
    rw (c.breaks-breaks.ensures.value) (last_level-get_or c.args.curve.now (0, 0) (some_point c.args.curve.now c.breaks-breaks.ensures.curve.points))
