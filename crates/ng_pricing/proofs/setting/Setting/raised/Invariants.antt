use Rattle.ng_pricing.specs.Fixing.{IsRising}
use Rattle.ng_pricing.proofs.setting.Setting.raised.Given as goal

abbrev pub invariant-loop-customer : goal.invariant-loop-customer
invariant-loop-customer g l = IsRising l.self.inst.now l.self.sets.now l.base.items l.customer l.rising
