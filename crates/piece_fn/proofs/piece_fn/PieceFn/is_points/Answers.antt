use Rattle.std.proofs.Common.{◌∙◌, sym}
use Rattle.piece_fn.proofs.Walks.{points_from_test, test_from_points}
use Rattle.piece_fn.proofs.piece_fn.PieceFn.is_points.Goals as goal

pub returns : goal.returns
returns c = (
  λ is. points_from_test c.args.points.now (sym c.are_points.ensures ∙ is),
  λ are. c.are_points.ensures ∙ test_from_points c.args.points.now are,
)
