use Rattle.std.proofs.Common.{◌∙◌, arith, ap}
use Rattle.charge_curve.specs.Points.{time_on}
use Rattle.piece_fn.proofs.Walks.{from_piece-on_first, from_piece-points, time_on-from_piece}
use Rattle.piece_fn.proofs.points.time_at.Goals as goal

pub time_on_piece-requires-clause-points : goal.time_on_piece-requires-clause-points
time_on_piece-requires-clause-points c = rw (c.piece_at.ensures) (from_piece-points c.args.level c.args.points.now c.requires)

pub time_on_piece-requires-clause-first : goal.time_on_piece-requires-clause-first
time_on_piece-requires-clause-first c = rw (c.piece_at.ensures) (from_piece-on_first c.args.level c.args.points.now c.requires)

pub returns : goal.returns
returns c = c.time_on_piece.ensures ∙ ap (λ ps. time_on ps c.args.level) c.piece_at.ensures ∙ time_on-from_piece c.args.level c.args.points.now c.args.level c.requires (omega arith)
