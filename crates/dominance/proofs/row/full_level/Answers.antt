use Rattle.std.proofs.Common.{ℕ, ◌<◌, arith, length, List, [], ◌∷◌}
use Rattle.charge_curve.specs.Points.{ArePoints}
use Rattle.dominance.proofs.Pieces.{last_level-get_or, never_falls}
use Rattle.dominance.proofs.row.full_level.Goals as goal

some_point : (ps : List (ℕ × ℕ)) → ArePoints ps → 0 < length ps
some_point [] are = absurd are
some_point (p ∷ ps) are = omega arith

pub returns-clause-value : goal.returns-clause-value
returns-clause-value c =
    rw (c.breaks-breaks.ensures.value) (last_level-get_or c.args.curve.now (0, 0) (some_point c.args.curve.now c.breaks-breaks.ensures.curve.points))

pub returns-clause-small : goal.returns-clause-small
returns-clause-small c = omega (arith, returns-clause-value c, c.breaks-breaks.ensures.curve.small_level)

pub returns-clause-rises : goal.returns-clause-rises
returns-clause-rises c low high le = never_falls c.args.curve.now c.breaks-breaks.ensures.curve.points low high le
