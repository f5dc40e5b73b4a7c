use Rattle.std.proofs.Common.{◌∙◌, sym, subst}
use Rattle.ev_model.specs.Levels.{KeepsBattery}
use Rattle.ev_model.specs.Plan.{IsPlan}
use Rattle.rounding_law.specs.Rounding.{IsRounded}
use Rattle.rounding_law.proofs.Shape.{rounded_is_plan, rounded_is_rounded, rounded_keeps_battery}
use Rattle.rounding_law.proofs.Whole.{some_kths}
use Rattle.rounding_law.proofs.rounding.rounded.Goals as goal

pub returns-clause-rounded : goal.returns-clause-rounded
returns-clause-rounded c =
    let some = some_kths c.args.inst.now c.args.p.now.k c.args.start c.args.p.now.stops c.requires.feasible in
    subst (λ xs. IsRounded c.args.inst.now c.args.p.now.k c.args.j c.args.start c.args.p.now.stops xs) (sym (c.from_vec.ensures ∙ c.in_ok-stops.ensures))
    (rounded_is_rounded c.args.inst.now c.args.p.now.k c.args.j c.args.start c.args.p.now.stops some c.requires.offset c.requires.feasible.battery)

pub returns-clause-plan : goal.returns-clause-plan
returns-clause-plan c =
    subst (λ xs. IsPlan c.args.inst.now xs) (sym (c.from_vec.ensures ∙ c.in_ok-stops.ensures))
    (rounded_is_plan c.args.inst.now c.args.p.now.k c.args.j c.args.start c.args.p.now.stops c.requires.feasible.plan)

pub returns-clause-battery : goal.returns-clause-battery
returns-clause-battery c =
    let some = some_kths c.args.inst.now c.args.p.now.k c.args.start c.args.p.now.stops c.requires.feasible in
    subst (λ xs. KeepsBattery c.args.inst.now 1 c.args.start xs) (sym (c.from_vec.ensures ∙ c.in_ok-stops.ensures))
    (rounded_keeps_battery c.args.inst.now c.args.p.now.k c.args.j c.args.start c.args.p.now.stops some c.requires.offset c.requires.feasible.battery)
