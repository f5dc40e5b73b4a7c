use Rattle.std.proofs.Common.{◌∙◌, [], ◌∷◌, ap, arith, subst}
use Rattle.dominance.specs.LevelTimes.{IsLevel, time_at}
use Rattle.piece_fn.specs.PieceFn.{level_times}
use Rattle.piece_fn.proofs.Levels.{level_is, time_at-level_times}
use Rattle.tests_ground.proofs.points.a_point_is_charged_along_a_curve.Goals as goal

pub charge-requires-clause-levels : goal.charge-requires-clause-levels
charge-requires-clause-levels g c level is =
    let within = level_is ((7, 16) ∷ []) level tt (subst (λ ps. IsLevel (level_times ps) level) c.point-point.ensures is) in
    omega (arith, c.scaled_curve-curve.ensures, within)

pub charge-requires-clause-times : goal.charge-requires-clause-times
charge-requires-clause-times g c level is =
    let there = subst (λ ps. IsLevel (level_times ps) level) c.point-point.ensures is in
    let time = ap (λ ps. time_at (level_times ps) level) c.point-point.ensures ∙ time_at-level_times ((7, 16) ∷ []) level tt there in
    omega (arith, time)
