use Rattle.charge_curve.proofs.Facts.{is_scaling}
use Rattle.charge_curve.proofs.curve.Curve.scale.Goals as goal

pub invariant_of-result : goal.invariant_of-result
invariant_of-result c = (is_scaling c.args.self.now c.args.d c.in_ok-breaks.breaks.items c.scaled_breaks.ensures.accepted c.requires.small c.requires.multiple c.in_ok-breaks.ensures.breaks).curve

pub returns-clause-times : goal.returns-clause-times
returns-clause-times c = (is_scaling c.args.self.now c.args.d c.in_ok-breaks.breaks.items c.scaled_breaks.ensures.accepted c.requires.small c.requires.multiple c.in_ok-breaks.ensures.breaks).times

pub returns-clause-full : goal.returns-clause-full
returns-clause-full c = (is_scaling c.args.self.now c.args.d c.in_ok-breaks.breaks.items c.scaled_breaks.ensures.accepted c.requires.small c.requires.multiple c.in_ok-breaks.ensures.breaks).last
