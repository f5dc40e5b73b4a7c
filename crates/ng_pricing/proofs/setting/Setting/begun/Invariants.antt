use Rattle.ng_pricing.specs.Met.{AreMet}
use Rattle.near_proof.specs.Terms.{price_total}
use Rattle.ng_pricing.proofs.Lowered.{AreSpared}
use Rattle.ng_pricing.proofs.setting.Setting.begun.Given as goal

abbrev pub invariant-lower : goal.invariant-lower
invariant-lower l = record {
  met : AreMet l.self.inst.now l.self.sets.now l.met.items;
  spared : AreSpared l.self.inst.now l.self.sets.now l.fn.start.items l.prices.items;
}

abbrev pub decreases-lower : goal.decreases-lower
decreases-lower l = price_total l.prices.items
