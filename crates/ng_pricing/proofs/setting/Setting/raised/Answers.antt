use Rattle.std.proofs.Common.{◌≡◌, ◌∙◌, ◌+◌, IfNone, List, ℕ, Option, ap, arith, length, refl, subst}
use Rattle.std.proofs.lemmas.Grind.{common_steps}
use Rattle.instance_reader.specs.Instance.{customer_nodes}
use Rattle.ng_pricing.specs.Fixing.{IsRising}
use Rattle.ng_pricing.specs.declared.setting.ClosedAt.{ClosedAt}
use Rattle.ng_pricing.proofs.Risen.{risen_first}
use Rattle.ng_pricing.proofs.setting.Setting.raised.Goals as goal

pub loop-customer-init : goal.loop-customer-init
loop-customer-init g c =
    risen_first c.args.self.now.inst.now c.args.self.now.sets.now c.args.start.items c.in_ok-base.field-0 (record { prices = c.in_ok-copy_of.field-0; labels = c.in_ok-base.field-0.labels; tight = c.new.result; met = c.in_ok-base.field-0.met })
    c.in_ok-base.ensures c.requires.one_price c.requires.small (c.in_ok-copy_of.ensures ∙ c.deref.ensures.value) refl c.new.ensures.items refl

pub loop-customer-preserved : goal.loop-customer-preserved
loop-customer-preserved g c =
    let told = subst (λ (o : Option ClosedAt). IfNone o (IsRising c.args.self.now.inst.now c.args.self.now.sets.now c.deref-in-loop-customer.result.now (c.loop-customer.customer + 1) c.fix.new.rising)) c.in_default.is c.in_ok-at.ensures.fixed in
    subst (λ (ps : List ℕ). IsRising c.args.self.now.inst.now c.args.self.now.sets.now ps (c.loop-customer.customer + 1) c.fix.new.rising) c.deref-in-loop-customer.ensures.value told

pub fix-requires-clause-customer : goal.fix-requires-clause-customer
fix-requires-clause-customer = grind (arith, common_steps)

pub returns : goal.returns
returns g c =
    let e = ap length c.customers-customer-end.ensures.value in
    let over = c.loop-customer-test.false in
    let within = c.loop-customer.auto.customer-end in
    let all : c.loop-customer.customer ≡ length (customer_nodes c.args.self.now.inst.now) = omega (arith, e, over, within) in
    record {
      base = c.in_ok-base.field-0.prices.items;
      lowered = c.in_ok-base.ensures.lowered;
      rising = subst (λ (n : ℕ). IsRising c.args.self.now.inst.now c.args.self.now.sets.now c.in_ok-base.field-0.prices.items n c.loop-customer.rising) all c.loop-customer.invariant;
    }
