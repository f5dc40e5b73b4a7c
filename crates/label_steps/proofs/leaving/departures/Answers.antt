use Rattle.std.proofs.Common.{◌∙◌, ℕ, List, [], None, Option, subst, sym, arith}
use Rattle.std.proofs.lemmas.Grind.{common_steps}
use Rattle.std.specs.Prelude.{IfSome}
use Rattle.std.proofs.lemmas.Result.{IfOk-weaker}
use Rattle.std.proofs.lemmas.List.Elements.{All-nil}
use Rattle.dominance.specs.Coverage.{CoversEach, SomeReaches}
use Rattle.dominance.specs.LevelTimes.{IsLevel, LevelTimes}
use Rattle.dominance.specs.Steps.{IsCharge, IsShift}
use Rattle.piece_fn.specs.PieceFn.{level_times}
use Rattle.label_steps.specs.Paying.{AreCharged, paying}
use Rattle.label_steps.proofs.PluggedValues.{charges_cover, charges_left, no_curve, no_plug, plugged_low, single_covers}
use Rattle.label_steps.proofs.leaving.departures.Goals as goal

pub returns-in_default-clause-covers : goal.returns-in_default-clause-covers
returns-in_default-clause-covers c =
    IfOk-weaker c.single.result _ _ (λ values. single_covers c.args.inst.now c.args.node c.args.arrived values.items (no_curve c.args.inst.now c.args.node c.args.arrived c.in_default.ensures)) c.single.ensures

pub returns-in_default-2-clause-covers : goal.returns-in_default-2-clause-covers
returns-in_default-2-clause-covers c =
    IfOk-weaker c.single-in_default-2.result _ _
    (λ values. single_covers c.args.inst.now c.args.node c.args.arrived values.items (no_plug c.args.inst.now c.args.node c.plugging_time.result c.scaled_limit.result c.plugging_time.ensures.value c.scaled_limit.ensures.value c.args.arrived c.in_ok-plugged.field-0 c.in_ok-plugged.ensures.keeps c.in_default-2.is))
    c.single-in_default-2.ensures

pub charged_where_it_pays-requires-clause-levels : goal.charged_where_it_pays-requires-clause-levels
charged_where_it_pays-requires-clause-levels c =
    let moved = subst (λ (o : Option (List (ℕ × ℕ))). IfSome o (λ v. IsShift 0 c.plugging_time.result c.scaled_limit.result (level_times c.args.arrived) (level_times v))) c.in-Some-2.is c.in_ok-plugged.ensures.some in
    plugged_low c.args.inst.now c.args.node c.plugging_time.result c.scaled_limit.result c.plugging_time.ensures.value c.scaled_limit.ensures.value c.args.arrived c.in_ok-plugged.field-0 c.in_ok-plugged.ensures.keeps c.in-Some-2.plugged c.in-Some.curve.now c.in-Some-2.is moved c.in-Some.ensures c.requires.levels
    [] (All-nil (λ start. IsLevel (level_times c.in-Some-2.plugged) start.0))

pub returns-clause-left : goal.returns-clause-left
returns-clause-left c =
    charges_left c.args.inst.now c.args.node c.plugging_time.result c.scaled_limit.result c.plugging_time.ensures.value c.scaled_limit.ensures.value c.args.arrived c.in_ok-plugged.field-0 c.in_ok-plugged.ensures.keeps c.in-Some-2.plugged c.in-Some.curve.now c.in-Some-2.is
    (subst (λ (o : Option (List (ℕ × ℕ))). IfSome o (λ v. IsShift 0 c.plugging_time.result c.scaled_limit.result (level_times c.args.arrived) (level_times v))) c.in-Some-2.is c.in_ok-plugged.ensures.some)
    c.in-Some.ensures c.requires.levels (paying c.in-Some.curve.now None c.in-Some-2.plugged) c.in_ok-values.ensures.starts
    c.in_ok-values.values.items (subst (λ l. AreCharged c.in-Some-2.plugged c.in-Some.curve.now l (paying c.in-Some.curve.now None c.in-Some-2.plugged) c.in_ok-values.values.items) (c.scaled_limit-2.ensures.value ∙ sym c.scaled_limit.ensures.value) c.in_ok-values.ensures.answers)

pub returns-clause-covers : goal.returns-clause-covers
returns-clause-covers c =
    charges_cover c.args.inst.now c.args.node c.plugging_time.result c.scaled_limit.result c.plugging_time.ensures.value c.scaled_limit.ensures.value c.args.arrived c.in_ok-plugged.field-0 c.in_ok-plugged.ensures.keeps c.in-Some-2.plugged c.in-Some.curve.now c.in-Some-2.is
    (subst (λ (o : Option (List (ℕ × ℕ))). IfSome o (λ v. IsShift 0 c.plugging_time.result c.scaled_limit.result (level_times c.args.arrived) (level_times v))) c.in-Some-2.is c.in_ok-plugged.ensures.some)
    c.in-Some.ensures c.requires.levels (paying c.in-Some.curve.now None c.in-Some-2.plugged) c.in_ok-values.ensures.starts
    c.in_ok-values.values.items (subst (λ l. AreCharged c.in-Some-2.plugged c.in-Some.curve.now l (paying c.in-Some.curve.now None c.in-Some-2.plugged) c.in_ok-values.values.items) (c.scaled_limit-2.ensures.value ∙ sym c.scaled_limit.ensures.value) c.in_ok-values.ensures.answers)
    (subst (λ l. (other : LevelTimes) (extra level time : ℕ) → CoversEach (level_times c.in-Some-2.plugged) other extra → IsCharge other c.in-Some.curve.now l level time → SomeReaches level_times c.in_ok-values.values.items extra level time) (c.scaled_limit-2.ensures.value ∙ sym c.scaled_limit.ensures.value) c.in_ok-values.ensures.keeps)

pub charged_where_it_pays-requires-clause-times : goal.charged_where_it_pays-requires-clause-times
charged_where_it_pays-requires-clause-times = grind (arith, common_steps)

pub returns-clause-some : goal.returns-clause-some
returns-clause-some = grind (arith, common_steps)
