use Rattle.ng_pricing.specs.Met.{AreMet, IsLimit}
use Rattle.ng_pricing.proofs.setting.Setting.lowered.Given as goal

abbrev pub invariant-lower : goal.invariant-lower
invariant-lower l = record {
  met : AreMet l.self.inst.now l.self.sets.now l.met.items;
  limit : IsLimit l.prices l.customer l.met.items l.limit;
}

abbrev pub decreases-lower : goal.decreases-lower
decreases-lower l = l.limit.price
