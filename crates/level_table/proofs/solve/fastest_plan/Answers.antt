use Rattle.std.proofs.Common.{Global, MatchOption, Option, Vec, subst, sym, arith}
use Rattle.std.proofs.lemmas.Grind.{common_steps}
use Rattle.ev_model.specs.Fastest.{IsFastest}
use Rattle.ev_model.specs.declared.Stop.{Stop}
use Rattle.level_table.specs.Answer.{HasNoWholePlan, IsFastestWhole}
use Rattle.level_table.proofs.AnyFraction.{fastest-in_any_fraction, none-in_any_fraction}
use Rattle.level_table.proofs.solve.fastest_plan.Goals as goal

pub returns-in_default : goal.returns-in_default
returns-in_default c =
    let whole : HasNoWholePlan c.args.inst.now c.args.route.now c.args.start =
    subst (λ (o : Option (Vec Stop Global)). MatchOption o (HasNoWholePlan c.args.inst.now c.args.route.now c.args.start) (λ v. IsFastestWhole c.args.inst.now c.args.route.now c.args.start v.items)) c.in_default.is c.in_ok-stops.ensures in
    none-in_any_fraction c.args.inst.now c.args.route.now c.args.start c.stations_of.ensures.network whole

pub returns : goal.returns
returns c =
    let whole : IsFastestWhole c.args.inst.now c.args.route.now c.args.start c.in-Some.stops.items =
    subst (λ (o : Option (Vec Stop Global)). MatchOption o (HasNoWholePlan c.args.inst.now c.args.route.now c.args.start) (λ v. IsFastestWhole c.args.inst.now c.args.route.now c.args.start v.items)) c.in-Some.is c.in_ok-stops.ensures in
    subst (λ stops. IsFastest c.args.inst.now c.args.route.now c.args.start stops) (sym c.from_vec.ensures)
    (fastest-in_any_fraction c.args.inst.now c.args.route.now c.args.start c.in-Some.stops.items c.stations_of.ensures.network whole)

pub invariant_of-trip : goal.invariant_of-trip
invariant_of-trip = grind (arith, common_steps)
