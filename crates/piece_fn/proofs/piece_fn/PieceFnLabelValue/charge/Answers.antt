use Rattle.std.proofs.Common.{◌≡◌, ℕ, ◌<◌, ◌∙◌, List, ap, get_or, length, subst, sym, arith}
use Rattle.std.proofs.lemmas.Grind.{common_steps}
use Rattle.std.proofs.lemmas.List.{take_all}
use Rattle.std.proofs.lemmas.List.Elements.{All-get_or, All-push, All-weaker}
use Rattle.charge_curve.specs.Points.{ArePoints}
use Rattle.dominance.specs.LevelTimes.{IsLevel, IsValue}
use Rattle.dominance.proofs.Pieces.{never_falls}
use Rattle.dominance.proofs.Rows.{charges_keep}
use Rattle.piece_fn.specs.PieceFn.{IsChargedFrom, IsChargeList, level_times, starts}
use Rattle.piece_fn.proofs.Charges.{charge_more, each_start, every_charge, only_charges}
use Rattle.piece_fn.proofs.Levels.{is_value}
use Rattle.piece_fn.proofs.piece_fn.PieceFnLabelValue.charge.Goals as goal

-- a level to charge from
start_is : (self breaks : List (ℕ × ℕ)) (items : List ℕ) (index : ℕ) → items ≡ starts self breaks → index < length items → IsLevel (level_times self) (get_or items index 0)
start_is self breaks items index same less =
    let inside : index < length (starts self breaks) = subst (λ xs. index < length xs) same less in
    subst (λ xs. IsLevel (level_times self) (get_or xs index 0)) (sym same) (All-get_or (λ level. IsLevel (level_times self) level) (starts self breaks) index 0 inside (each_start self breaks))

pub charge_from-requires-clause-level : goal.charge_from-requires-clause-level
charge_from-requires-clause-level c =
    let same = c.deref-start-items.ensures.value ∙ c.in_ok-starts.ensures ∙ ap (λ ps. starts ps c.breaks-breaks.result.now) c.points-points.ensures.value in
    start_is c.args.self.now c.breaks-breaks.result.now c.deref-start-items.result.now c.loop-start.start-index same c.loop-start-test.true

pub charge_from-requires-clause-fits : goal.charge_from-requires-clause-fits
charge_from-requires-clause-fits c =
    let same = c.deref-start-items.ensures.value ∙ c.in_ok-starts.ensures ∙ ap (λ ps. starts ps c.breaks-breaks.result.now) c.points-points.ensures.value in
    c.requires.levels (get_or c.deref-start-items.result.now c.loop-start.start-index 0) (start_is c.args.self.now c.breaks-breaks.result.now c.deref-start-items.result.now c.loop-start.start-index same c.loop-start-test.true)

pub charge_from-requires-clause-time : goal.charge_from-requires-clause-time
charge_from-requires-clause-time c =
    let same = c.deref-start-items.ensures.value ∙ c.in_ok-starts.ensures ∙ ap (λ ps. starts ps c.breaks-breaks.result.now) c.points-points.ensures.value in
    c.requires.times (get_or c.deref-start-items.result.now c.loop-start.start-index 0) (start_is c.args.self.now c.breaks-breaks.result.now c.deref-start-items.result.now c.loop-start.start-index same c.loop-start-test.true)

pub loop-start-preserved : goal.loop-start-preserved
loop-start-preserved c = record {
  list =
      rw (c.in_ok-push-2.ensures.items) (charge_more c.args.self.now c.args.curve.now c.args.limit c.deref-start-items.result.now c.loop-start.start-index c.loop-start.values.items c.in_ok-value.value c.loop-start-test.true
      c.loop-start.invariant.list c.in_ok-value.ensures.charge);
  points = rw (c.in_ok-push-2.ensures.items) (All-push ArePoints c.loop-start.values.items c.in_ok-value.value c.loop-start.invariant.points c.in_ok-value.ensures.valid);
}

the_list : (c : goal.After-drop-starts-2) → IsChargeList c.args.self.now c.args.curve.now c.args.limit c.loop-start.values.items
the_list c =
    let whole = take_all c.loop-start.start-index c.deref-start-items.result.now c.loop-start-test.false in
    let same = c.deref-start-items.ensures.value ∙ c.in_ok-starts.ensures ∙ ap (λ ps. starts ps c.breaks-breaks.result.now) c.points-points.ensures.value ∙ ap (λ ps. starts c.args.self.now ps) c.breaks-breaks.ensures.value in
    subst (λ levels. IsChargedFrom c.args.self.now c.args.curve.now c.args.limit levels c.loop-start.values.items) (whole ∙ same) c.loop-start.invariant.list

pub returns-clause-answers : goal.returns-clause-answers
returns-clause-answers c = the_list c

pub returns-clause-every : goal.returns-clause-every
returns-clause-every c =
    every_charge c.args.self.now c.args.curve.now c.args.limit c.loop-start.values.items c.points-points.ensures.valid c.breaks-breaks.ensures.curve.points c.breaks-breaks.ensures.curve.slowing (the_list c)

pub returns-clause-only : goal.returns-clause-only
returns-clause-only c = only_charges c.args.self.now c.args.curve.now c.args.limit c.loop-start.values.items (the_list c) c.requires.levels c.requires.times

pub returns-clause-valid : goal.returns-clause-valid
returns-clause-valid c = All-weaker ArePoints (λ value. IsValue (level_times value)) is_value c.loop-start.values.items c.loop-start.invariant.points

pub returns-clause-keeps : goal.returns-clause-keeps
returns-clause-keeps c other extra level time covers is =
    charges_keep level_times (level_times c.args.self.now) c.args.curve.now c.args.limit c.loop-start.values.items (never_falls c.args.curve.now c.breaks-breaks.ensures.curve.points) c.requires.levels
    (returns-clause-every c) other extra level time covers is

pub loop-start-init : goal.loop-start-init
loop-start-init = grind (arith, common_steps)
