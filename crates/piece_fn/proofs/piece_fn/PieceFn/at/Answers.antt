use Rattle.std.proofs.Common.{◌≤◌, ◌<◌, ◌∙◌, ap, arith, get_or, sym}
use Rattle.charge_curve.specs.Points.{last_level, time_on}
use Rattle.piece_fn.proofs.Levels.{is_level, level_is, time_at-level_times}
use Rattle.piece_fn.proofs.Values.{first_level-get_or}
use Rattle.piece_fn.proofs.piece_fn.PieceFn.at.Goals as goal
use Rattle.piece_fn.proofs.piece_fn.PieceFn.at.Goals.{then-q-points-via-then-q-points, then-q-points-via-else-q-points+then-last_level-q}

pub returns-then-q-points-clause-none : goal.returns-then-q-points-clause-none
returns-then-q-points-clause-none c is =
    let inside = level_is c.args.self.now c.args.q c.points-points.ensures.valid is in
    let first = first_level-get_or c.args.self.now (0, 0) c.points-points.ensures.valid in
    elim c.then-q-points.branch [
      | then-q-points-via-then-q-points w ↦
          let less : c.args.q < (get_or c.args.self.now 0 (0, 0)).0 = rw (← c.points-points.ensures.value) (w.if-q-points.true) in
          omega (arith, less, first, inside)
      | then-q-points-via-else-q-points+then-last_level-q w ↦
          let last = w.last_level.ensures ∙ ap last_level c.points-points.ensures.value in
          omega (arith, last, inside, w.if-last_level-q.true)
    ]

pub returns-clause-some : goal.returns-clause-some
returns-clause-some c =
    let first = first_level-get_or c.args.self.now (0, 0) c.points-points.ensures.valid in
    let low : (get_or c.args.self.now 0 (0, 0)).0 ≤ c.args.q = rw (← c.points-points.ensures.value) (c.if-q-points.false) in
    let last = c.last_level.ensures ∙ ap last_level c.points-points.ensures.value in
    let is = is_level c.args.self.now c.args.q c.points-points.ensures.valid (omega (arith, first, low)) (omega (arith, last, c.if-last_level-q.false)) in
    (is, c.time_at.ensures ∙ ap (λ ps. time_on ps c.args.q) c.points-points.ensures.value ∙ sym (time_at-level_times c.args.self.now c.args.q c.points-points.ensures.valid is))
