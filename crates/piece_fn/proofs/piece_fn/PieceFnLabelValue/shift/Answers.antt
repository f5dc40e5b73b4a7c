use Rattle.std.proofs.Common.{◌∙◌, ap, arith, subst, sym}
use Rattle.std.proofs.lemmas.Bool.{leb-false, leb-true}
use Rattle.charge_curve.specs.Points.{last_level, time_on}
use Rattle.dominance.specs.Laws.{shift_keeps, shift_keeps_some}
use Rattle.dominance.specs.Steps.{IsShift}
use Rattle.piece_fn.specs.Cuts.{begun_at, from_piece, moved, up_to}
use Rattle.piece_fn.specs.PieceFn.{level_times}
use Rattle.piece_fn.proofs.Levels.{is_value}
use Rattle.piece_fn.proofs.Parts.{is_part, IsPart}
use Rattle.piece_fn.proofs.Values.{below_energy, part_is_shift, past_limit}
use Rattle.piece_fn.proofs.piece_fn.PieceFnLabelValue.shift.Goals as goal
use Rattle.piece_fn.proofs.piece_fn.PieceFnLabelValue.shift.Goals.{then-last_level-energy-via-then-last_level-energy, then-last_level-energy-via-else-last_level-energy+then-not-is_in_time}

pub returns-then-last_level-energy-clause-none : goal.returns-then-last_level-energy-clause-none
returns-then-last_level-energy-clause-none c =
    let last = c.last_level.ensures ∙ ap last_level c.points-points.ensures.value in
    elim c.then-last_level-energy.branch [
      | then-last_level-energy-via-then-last_level-energy w ↦
          below_energy c.args.energy c.args.time c.args.limit c.args.self.now c.points-points.ensures.valid (omega (arith, last, w.if-last_level-energy.true))
      | then-last_level-energy-via-else-last_level-energy+then-not-is_in_time w ↦
          let late = leb-false _ _ (sym w.is_in_time.ensures ∙ w.if-not-is_in_time.true) in
          let here = w.time_at.ensures ∙ ap (λ ps. time_on ps c.args.energy) c.points-points.ensures.value in
          past_limit c.args.energy c.args.time c.args.limit c.args.self.now c.points-points.ensures.valid (omega (arith, late, here))
    ]

pub returns-then-last_level-energy-clause-keeps : goal.returns-then-last_level-energy-clause-keeps
returns-then-last_level-energy-clause-keeps c other left extra covers its =
    shift_keeps_some c.args.energy c.args.time c.args.limit extra (level_times c.args.self.now) other left covers its (returns-then-last_level-energy-clause-none c)

the_part : (c : goal.In_ok-points) → IsPart c.args.energy c.args.energy 0 c.args.time c.args.limit c.args.self.now c.in_ok-points.points.items
the_part c =
    let last = c.last_level.ensures ∙ ap last_level c.points-points.ensures.value in
    let here = c.time_at.ensures ∙ ap (λ ps. time_on ps c.args.energy) c.points-points.ensures.value in
    let within = leb-true _ _ (sym c.is_in_time.ensures ∙ c.if-not-is_in_time.false) in
    let is = is_part c.args.energy c.args.energy 0 c.args.time c.args.limit c.args.self.now c.points-points.ensures.valid (omega (arith, last, c.if-last_level-energy.false)) (omega arith) (omega arith) (omega (arith, here, within)) in
    let same = c.in_ok-points.ensures ∙ ap (λ ps. up_to c.args.limit (moved c.args.energy 0 c.args.time (begun_at c.args.energy (from_piece c.args.energy ps)))) c.points-points.ensures.value in
    subst (λ out. IsPart c.args.energy c.args.energy 0 c.args.time c.args.limit c.args.self.now out) (sym same) is

the_shift : (c : goal.In_ok-points) → IsShift c.args.energy c.args.time c.args.limit (level_times c.args.self.now) (level_times c.in_ok-points.points.items)
the_shift c = part_is_shift c.args.energy c.args.time c.args.limit c.args.self.now c.in_ok-points.points.items c.points-points.ensures.valid (the_part c)

pub invariant_of-result : goal.invariant_of-result
invariant_of-result c = (the_part c).are

pub returns-clause-some : goal.returns-clause-some
returns-clause-some c = the_shift c

pub returns-clause-valid : goal.returns-clause-valid
returns-clause-valid c = is_value c.in_ok-points.points.items (the_part c).are

pub returns-clause-keeps : goal.returns-clause-keeps
returns-clause-keeps c other left extra covers its =
    shift_keeps c.args.energy c.args.time c.args.limit extra (level_times c.args.self.now) other left (level_times c.in_ok-points.points.items) covers its (the_shift c)
