use Rattle.dominance.proofs.Pieces.{last_level-get_or}
use Rattle.piece_fn.proofs.Walks.{some_point}
use Rattle.near_proof.proofs.asking.last_level.Goals as goal

pub returns-clause-value : goal.returns-clause-value
returns-clause-value c =
    rw (c.points-points.ensures.value) (last_level-get_or c.args.value.now (0, 0) (some_point c.args.value.now c.points-points.ensures.valid))
