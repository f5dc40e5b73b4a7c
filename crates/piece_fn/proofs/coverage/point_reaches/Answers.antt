use Rattle.std.proofs.Common.{◌+◌, arith, refl, sym}
use Rattle.std.proofs.lemmas.Bool.{le-leb, leb-false, lt-leb}
use Rattle.charge_curve.specs.Points.{time_on}
use Rattle.piece_fn.proofs.Between.{second_is_most}
use Rattle.piece_fn.proofs.coverage.point_reaches.Goals as goal

pub returns-then-not-is_in_time : goal.returns-then-not-is_in_time
returns-then-not-is_in_time c =
    let past = leb-false _ _ (sym c.if-not-is_in_time.ensures) in
    let most = second_is_most c.args.other.now (0, 0) c.args.point.0 c.requires.other (omega (arith, c.in-len2-up.len_at_least)) c.requires.first in
    rw (
      le-leb c.args.levels.0 c.args.point.0 (omega (arith, c.if-point-levels.false)),
      le-leb c.args.point.0 c.args.levels.1 (omega (arith, c.if-levels-point.false)),
      lt-leb (c.args.point.1 + c.args.extra) (time_on c.args.other.now c.args.point.0) (omega (arith, past, most)),
    ) refl
