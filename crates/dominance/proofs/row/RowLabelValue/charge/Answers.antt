use Rattle.std.proofs.Common.{◌≡◌, ◌∙◌, ap, arith, length, subst}
use Rattle.dominance.specs.LevelTimes.{LevelTimes}
use Rattle.dominance.proofs.Rows.{AreCharges, charges_keep, charges_more, every_charge}
use Rattle.dominance.proofs.row.RowLabelValue.charge.Goals as goal

are_whole : (c : goal.After-loop-index) → AreCharges c.args.self.now c.args.curve.now c.args.limit (length c.args.self.now.times) c.loop-index.rows.items
are_whole c =
    let read : c.loop-index.index ≡ length c.self.inside.times.items = omega (arith, c.loop-index-test.false, c.loop-index.auto.index-end, c.len-index-end.ensures) in
    let whole : c.loop-index.index ≡ length c.args.self.now.times = read ∙ ap (λ (v : LevelTimes). length v.times) c.self.view_is in
    subst (λ n. AreCharges c.args.self.now c.args.curve.now c.args.limit n c.loop-index.rows.items) whole c.loop-index.invariant

pub loop-index-preserved : goal.loop-index-preserved
loop-index-preserved c =
    rw (c.in_ok-push.ensures.items)
    (charges_more c.args.self.now c.args.curve.now c.args.limit c.loop-index.index c.loop-index.rows.items c.in_ok-row.row c.loop-index.invariant c.in_ok-row.ensures.valid c.in_ok-row.ensures.charge)

pub returns-clause-every : goal.returns-clause-every
returns-clause-every c = every_charge c.args.self.now c.args.curve.now c.args.limit c.loop-index.rows.items (are_whole c)

pub returns-clause-keeps : goal.returns-clause-keeps
returns-clause-keeps c other extra level time covers is =
    charges_keep (λ (w : LevelTimes). w) c.args.self.now c.args.curve.now c.args.limit c.loop-index.rows.items c.full_level-full.ensures.rises c.requires.levels
    (every_charge c.args.self.now c.args.curve.now c.args.limit c.loop-index.rows.items (are_whole c)) other extra level time covers is
