use Rattle.std.proofs.Common.{◌∙◌, ◌-◌, ap, arith, sym}
use Rattle.std.proofs.lemmas.Grind.{common_steps}
use Rattle.std.proofs.lemmas.Bool.{eqb-false, eqb-true}
use Rattle.dominance.specs.Laws.{shift_keeps, shift_keeps_some}
use Rattle.dominance.specs.LevelTimes.{LevelTimes}
use Rattle.dominance.proofs.Rows.{later_is_shift, later_is_value, none_later, row}
use Rattle.dominance.proofs.row.RowLabelValue.shift.Goals as goal

pub returns-then-is_empty-clause-keeps : goal.returns-then-is_empty-clause-keeps
returns-then-is_empty-clause-keeps c other left extra covers its =
    let skips = c.saturating_sub-skipped.ensures ∙ ap (λ (v : LevelTimes). c.args.energy - v.first) c.self.view_is in
    let none = none_later c.args.self.now c.args.energy c.args.time c.args.limit c.saturating_sub-skipped.result c.in_ok-times.times.items skips c.in_ok-times.ensures.times (omega (arith, eqb-true _ _ (sym c.if-is_empty.ensures))) in
    shift_keeps_some c.args.energy c.args.time c.args.limit extra c.args.self.now other left covers its none

pub invariant_of-result : goal.invariant_of-result
invariant_of-result c =
    later_is_value c.args.self.now c.saturating_sub-skipped.result c.args.time c.args.limit c.saturating_sub-first.result c.in_ok-times.times.items c.in_ok-times.ensures.valid c.in_ok-times.ensures.times (omega (arith, eqb-false _ _ (sym c.if-is_empty.ensures)))

pub returns-clause-valid : goal.returns-clause-valid
returns-clause-valid c =
    later_is_value c.args.self.now c.saturating_sub-skipped.result c.args.time c.args.limit c.saturating_sub-first.result c.in_ok-times.times.items c.in_ok-times.ensures.valid c.in_ok-times.ensures.times (omega (arith, eqb-false _ _ (sym c.if-is_empty.ensures)))

pub returns-clause-keeps : goal.returns-clause-keeps
returns-clause-keeps c other left extra covers its =
    let skips = c.saturating_sub-skipped.ensures ∙ ap (λ (v : LevelTimes). c.args.energy - v.first) c.self.view_is in
    let begins = c.saturating_sub-first.ensures ∙ ap (λ (v : LevelTimes). v.first - c.args.energy) c.self.view_is in
    let is = later_is_shift c.args.self.now c.args.energy c.args.time c.args.limit c.saturating_sub-skipped.result c.saturating_sub-first.result c.in_ok-times.times.items skips begins c.in_ok-times.ensures.times in
    shift_keeps c.args.energy c.args.time c.args.limit extra c.args.self.now other left (row c.saturating_sub-first.result c.in_ok-times.times.items) covers its is

pub returns-then-is_empty-clause-none : goal.returns-then-is_empty-clause-none
returns-then-is_empty-clause-none = grind (arith, common_steps)
