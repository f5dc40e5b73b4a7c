use Rattle.std.proofs.Common.{◌<◌, List, ℕ, arith, subst, sym}
use Rattle.near_pricing.specs.Answers.{AreClosedLabels, IsNearPriced}
use Rattle.near_pricing.specs.declared.priced.NearPriced.{NearPriced}
use Rattle.near_pricing.specs.declared.priced.Prices.{Prices}
use Rattle.near_proof.specs.Terms.{price_total}
use Rattle.ng_pricing.specs.Met.{AreMet, IsLowered}
use Rattle.ng_pricing.specs.Rising.{terms_at}
use Rattle.ng_pricing.specs.declared.met.MetRoute.{MetRoute}
use Rattle.ng_pricing.proofs.Lowered.{AreSpared, spared_last, spared_next, total_falls, written}
use Rattle.ng_pricing.proofs.PriceLimits.{few_numbers, met_more, met_route}
use Rattle.ng_pricing.proofs.Risen.{closed_pay}
use Rattle.ng_pricing.proofs.setting.Setting.begun.Goals as goal

pub lower-requires-clause-few : goal.lower-requires-clause-few
lower-requires-clause-few c =
    let g = c.args.self.now.inst.now in
    let sets = c.args.self.now.sets.now in
    let r = c.in_ok-route-in-Better.route in
    let better = subst (λ (x : NearPriced). IsNearPriced c.args.self.now.inst.now (record { weight = c.in_ok-asked.asked.weight; prices = c.in_ok-asked.asked.of; sets = c.args.self.now.sets.now }) x) c.in-Better.is c.in_ok-plan.ensures in
    let is = met_route g sets c.in-Better.plan r better.route better.fits c.in_ok-route-in-Better.ensures in
    let few = few_numbers g sets r is in
    let most = c.requires.setting.few in
    omega (arith, few, most)

pub returns-in-Closed : goal.returns-in-Closed
returns-in-Closed c =
    let g = c.args.self.now.inst.now in
    let sets = c.args.self.now.sets.now in
    let prices = c.lower.prices.items in
    let are = subst (λ (x : NearPriced). IsNearPriced c.args.self.now.inst.now (record { weight = c.in_ok-asked.asked.weight; prices = c.in_ok-asked.asked.of; sets = c.args.self.now.sets.now }) x) c.in-Closed.is c.in_ok-plan.ensures in
    let asked = subst (λ (a : Prices). AreClosedLabels c.args.self.now.inst.now (record { weight = a.weight; prices = a.of; sets = c.args.self.now.sets.now }) c.in-Closed.labels) c.in_ok-asked.ensures are in
    let labels = subst (λ (ps : List ℕ). AreClosedLabels c.args.self.now.inst.now (terms_at c.args.self.now.sets.now ps) c.in-Closed.labels) c.deref.ensures.value asked in
    record {
      lowered = spared_last g sets c.args.start.items prices c.lower.invariant.spared (closed_pay g (terms_at sets prices) c.in-Closed.labels c.requires.setting.network labels);
      labels = labels;
      met = c.lower.invariant.met;
    }

pub lower-smaller : goal.lower-smaller
lower-smaller c =
    let r = c.in_ok-route-in-Better.route in
    let old = c.lower.prices.items in
    let new = c.lower-in-Better.new.prices in
    let is = subst (λ (ps : List ℕ). IsLowered c.in_ok-route-in-Better.route ps c.lower-in-Better.new.prices) c.deref_mut.ensures.value c.lower-in-Better.ensures in
    subst (λ (ps : List ℕ). price_total ps < price_total c.lower.prices.items) (sym (written r old new is c.lower.prices.len c.lower.prices.ok.0)) (total_falls r old new is)

pub lower-preserved : goal.lower-preserved
lower-preserved c =
    let g = c.args.self.now.inst.now in
    let sets = c.args.self.now.sets.now in
    let r = c.in_ok-route-in-Better.route in
    let old = c.lower.prices.items in
    let new = c.lower-in-Better.new.prices in
    let better = subst (λ (x : NearPriced). IsNearPriced c.args.self.now.inst.now (record { weight = c.in_ok-asked.asked.weight; prices = c.in_ok-asked.asked.of; sets = c.args.self.now.sets.now }) x) c.in-Better.is c.in_ok-plan.ensures in
    let met = met_route g sets c.in-Better.plan r better.route better.fits c.in_ok-route-in-Better.ensures in
    let is = subst (λ (ps : List ℕ). IsLowered c.in_ok-route-in-Better.route ps c.lower-in-Better.new.prices) c.deref_mut.ensures.value c.lower-in-Better.ensures in
    let spared = spared_next r old new is g sets c.args.start.items met c.lower.invariant.spared in
    record {
      met = subst (λ (ms : List MetRoute). AreMet c.args.self.now.inst.now c.args.self.now.sets.now ms) (sym c.in_ok-push-in-Better.ensures.items) (met_more g sets c.lower.met.items r c.lower.invariant.met met);
      spared = subst (AreSpared c.args.self.now.inst.now c.args.self.now.sets.now c.args.start.items) (sym (written r old new is c.lower.prices.len c.lower.prices.ok.0)) spared;
    }
