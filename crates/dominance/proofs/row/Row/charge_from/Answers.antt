use Rattle.std.proofs.Common.{◌≡◌, ℕ, ◌+◌, ◌<◌, ap, arith, subst, length}
use Rattle.std.proofs.lemmas.Grind.{common_steps}
use Rattle.charge_curve.specs.Points.{last_level}
use Rattle.dominance.specs.LevelTimes.{IsLevel, LevelTimes}
use Rattle.dominance.specs.Steps.{charged, IsChargeFrom}
use Rattle.dominance.proofs.Rows.{AreCharged, charged_is_charge, charged_is_value, charged_past, charged_whole, row, some_charged, time_at-number}
use Rattle.dominance.proofs.row.Row.charge_from.Goals as goal

level_is : (v w : LevelTimes) (index : ℕ) → w ≡ v → index < length v.times → IsLevel v (w.first + index)
level_is v w index is less = let same : w.first ≡ v.first = ap (λ (x : LevelTimes). x.first) is in (omega (arith, same), omega (arith, same, less))

is_past : (c : goal.Then-after-from) → c.args.limit < charged c.args.self.now c.args.curve.now (c.self.inside.first + c.args.index) c.loop-level.level
is_past c =
    let before = time_at-number c.args.self.now c.self.inside.first c.args.index c.index.result.now c.from-before.result c.self.inside.times.items c.self.view_is c.requires.some c.index.ensures c.from-before.ensures in
    omega (arith, before, c.if-after-from.true, c.from.ensures, c.from-in-loop-level.ensures, c.time_to.ensures.value, c.time_to-start.ensures.value)

are_charged : (c : goal.Then-after-from) → AreCharged c.args.self.now c.args.curve.now c.args.limit (c.self.inside.first + c.args.index) c.loop-level.times.items
are_charged c =
    charged_past c.args.self.now c.args.curve.now c.args.limit (c.self.inside.first + c.args.index) c.loop-level.level c.loop-level.times.items c.requires.rises c.loop-level.invariant
    (omega (arith, c.loop-level-test.true, c.requires.full)) (is_past c)

pub invariant_of-result : goal.invariant_of-result
invariant_of-result c =
    let starts = level_is c.args.self.now (row c.self.inside.first c.self.inside.times.items) c.args.index c.self.view_is c.requires.some in
    let within = c.requires.times (c.self.inside.first + c.args.index) starts in
    charged_is_value c.args.self.now c.args.curve.now c.args.limit (c.self.inside.first + c.args.index) c.loop-level.times.items c.requires.rises (are_charged c)
    (some_charged c.args.self.now c.args.curve.now c.args.limit (c.self.inside.first + c.args.index) c.loop-level.level c.loop-level.times.items c.loop-level.invariant within (is_past c))

pub returns-then-after-from-clause-valid : goal.returns-then-after-from-clause-valid
returns-then-after-from-clause-valid c = invariant_of-result c

pub returns-then-after-from-clause-charge : goal.returns-then-after-from-clause-charge
returns-then-after-from-clause-charge c =
    let from = c.self.inside.first + c.args.index in
    subst (λ first. IsChargeFrom c.args.self.now c.args.curve.now c.args.limit (first + c.args.index) (row (c.self.inside.first + c.args.index) c.loop-level.times.items)) (ap (λ (v : LevelTimes). v.first) c.self.view_is)
    (charged_is_charge c.args.self.now c.args.curve.now c.args.limit from c.loop-level.times.items (are_charged c))

pub returns-clause-charge : goal.returns-clause-charge
returns-clause-charge c =
    let from = c.self.inside.first + c.args.index in
    let starts = level_is c.args.self.now (row c.self.inside.first c.self.inside.times.items) c.args.index c.self.view_is c.requires.some in
    let fits = c.requires.levels (c.self.inside.first + c.args.index) starts in
    let end : c.loop-level.level ≡ last_level c.args.curve.now + 1 = omega (arith, c.loop-level-test.false, c.loop-level.auto.level-end (omega (arith, fits, c.requires.full)), c.requires.full) in
    subst (λ first. IsChargeFrom c.args.self.now c.args.curve.now c.args.limit (first + c.args.index) (row (c.self.inside.first + c.args.index) c.loop-level.times.items)) (ap (λ (v : LevelTimes). v.first) c.self.view_is)
    (charged_is_charge c.args.self.now c.args.curve.now c.args.limit from c.loop-level.times.items
    (charged_whole c.args.self.now c.args.curve.now c.args.limit from c.loop-level.level c.loop-level.times.items c.loop-level.invariant end))

pub loop-level-preserved : goal.loop-level-preserved
loop-level-preserved = grind (arith, common_steps)
