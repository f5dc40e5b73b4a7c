use Rattle.dominance.proofs.Pieces.{last_level-get_or}
use Rattle.piece_fn.proofs.Walks.{some_point}
use Rattle.frvcp_labels.proofs.there.highest.Goals as goal

pub returns : goal.returns
returns c = last_level-get_or c.args.points.now (0, 0) (some_point c.args.points.now c.requires)
