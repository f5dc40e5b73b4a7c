use Rattle.std.proofs.Common.{◌≡◌, ◌∙◌, ◌≤◌, ◌+◌, ap, arith, length, min, subst, sym}
use Rattle.std.proofs.lemmas.Bool.{leb-false, leb-true}
use Rattle.charge_curve.specs.Points.{last_level, time_on}
use Rattle.piece_fn.specs.Reach.{LastsTo}
use Rattle.piece_fn.proofs.Values.{is_reach, not_reached_late, not_reached_past, single_lasts}
use Rattle.piece_fn.proofs.piece_fn.PieceFn.reach.Goals as goal
use Rattle.piece_fn.proofs.piece_fn.PieceFn.reach.Goals.{then-end-from-via-then-end-from, then-end-from-via-else-end-from+then-not-is_in_time}

pub returns-then-end-from-clause-none : goal.returns-then-end-from-clause-none
returns-then-end-from-clause-none c reach =
    let own = c.last_level.ensures ∙ ap last_level c.points-own.ensures.value in
    let other = c.last_level-2.ensures ∙ ap last_level c.points-others.ensures.value in
    let end : c.min-end.result ≡ min (last_level c.args.self.now) (last_level c.args.other.now) = omega (arith, c.min-end.ensures, own, other) in
    elim c.then-end-from.branch [
      | then-end-from-via-then-end-from w ↦
          not_reached_past c.args.self.now c.args.other.now c.args.extra c.args.from c.min-end.result c.points-own.ensures.valid c.points-others.ensures.valid end c.requires w.if-end-from.true reach
      | then-end-from-via-else-end-from+then-not-is_in_time w ↦
          let late = leb-false _ _ (sym w.is_in_time.ensures ∙ w.if-not-is_in_time.true) in
          let mine = w.time_at.ensures ∙ ap (λ ps. time_on ps c.args.from) c.points-own.ensures.value in
          let its = w.time_at-else-end-from.ensures ∙ ap (λ ps. time_on ps c.args.from) c.points-others.ensures.value in
          not_reached_late c.args.self.now c.args.other.now c.args.extra c.args.from c.points-own.ensures.valid c.points-others.ensures.valid c.requires (omega (arith, late, mine, its)) reach
    ]

pub returns-clause-some : goal.returns-clause-some
returns-clause-some c =
    let own = c.last_level.ensures ∙ ap last_level c.points-own.ensures.value in
    let other = c.last_level-2.ensures ∙ ap last_level c.points-others.ensures.value in
    let end : c.min-end.result ≡ min (last_level c.args.self.now) (last_level c.args.other.now) = omega (arith, c.min-end.ensures, own, other) in
    let lasts = subst (λ ps. LastsTo (time_on ps) (time_on c.points-others.result.now) c.args.extra c.args.from c.min-end.result c.farthest.result) c.points-own.ensures.value c.farthest.ensures in
    let both = subst (λ ps. LastsTo (time_on c.args.self.now) (time_on ps) c.args.extra c.args.from c.min-end.result c.farthest.result) c.points-others.ensures.value lasts in
    is_reach c.args.self.now c.args.other.now c.args.extra c.args.from c.min-end.result c.farthest.result c.points-own.ensures.valid c.points-others.ensures.valid end c.requires both

pub returns-then-own-eq1-clause-some : goal.returns-then-own-eq1-clause-some
returns-then-own-eq1-clause-some c =
    let own = c.last_level.ensures ∙ ap last_level c.points-own.ensures.value in
    let other = c.last_level-2.ensures ∙ ap last_level c.points-others.ensures.value in
    let end : c.min-end.result ≡ min (last_level c.args.self.now) (last_level c.args.other.now) = omega (arith, c.min-end.ensures, own, other) in
    let early = leb-true _ _ (sym c.is_in_time.ensures ∙ c.if-not-is_in_time.false) in
    let mine = c.time_at.ensures ∙ ap (λ ps. time_on ps c.args.from) c.points-own.ensures.value in
    let its = c.time_at-else-end-from.ensures ∙ ap (λ ps. time_on ps c.args.from) c.points-others.ensures.value in
    let covered : time_on c.args.self.now c.args.from + c.args.extra ≤ time_on c.args.other.now c.args.from = omega (arith, early, mine, its) in
    let one : length c.args.self.now ≡ 1 = sym (ap length c.points-own.ensures.value) ∙ c.if-own-eq1.true in
    let lasts = single_lasts c.args.self.now c.args.other.now c.args.extra c.args.from c.min-end.result c.points-own.ensures.valid c.points-others.ensures.valid one (omega (arith, c.if-end-from.false)) covered in
    is_reach c.args.self.now c.args.other.now c.args.extra c.args.from c.min-end.result c.min-end.result c.points-own.ensures.valid c.points-others.ensures.valid end c.requires lasts
