use Rattle.std.proofs.Common.{List, subst, sym}
use Rattle.ev_model.specs.declared.Stop.{Stop}
use Rattle.plan_check.proofs.Feasible.{plan_known}
use Rattle.plan_check.specs.Tallies.{AreKnown}
use Rattle.ng_pricing.proofs.met.MetRoute.new.Goals as goal

pub numbers_of-requires : goal.numbers_of-requires
numbers_of-requires c = record {
  known = subst (λ (ss : List Stop). AreKnown c.args.inst.now ss) (sym c.as_slice.ensures) (plan_known c.args.inst.now c.args.plan.stops c.requires);
}
