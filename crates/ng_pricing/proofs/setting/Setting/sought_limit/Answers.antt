use Rattle.std.proofs.Common.{◌∙◌, ◌<◌, ℕ, ap, arith, length, subst}
use Rattle.std.proofs.lemmas.Grind.{common_steps}
use Rattle.fleet_model.specs.Places.{numbers_of}
use Rattle.near_pricing.specs.Answers.{AreClosedLabels, IsNearPriced}
use Rattle.near_pricing.specs.declared.priced.NearPriced.{NearPriced}
use Rattle.near_pricing.specs.declared.priced.Prices.{Prices}
use Rattle.near_proof.specs.Terms.{earned_by}
use Rattle.ng_pricing.proofs.Risen.{earned_alone, unserved}
use Rattle.ng_pricing.proofs.setting.Setting.sought_limit.Goals as goal

pub meet-requires-clause-serves : goal.meet-requires-clause-serves
meet-requires-clause-serves c =
    let numbers = numbers_of c.args.self.now.inst.now c.in-Better.plan.stops in
    let asked = c.in_ok-asked.asked in
    let better = subst (λ (x : NearPriced). IsNearPriced c.args.self.now.inst.now (record { weight = c.in_ok-asked.asked.weight; prices = c.in_ok-asked.asked.of; sets = c.args.self.now.sets.now }) x) c.in-Better.is c.in_ok-plan.ensures in
    let count = c.requires.open.count in
    let inside = c.requires.open.customer in
    let less : c.args.customer < length c.args.prices.now = omega (arith, count, inside) in
    let earned = ap (λ (a : Prices). earned_by a.of numbers) c.in_ok-asked.ensures ∙ earned_alone (length c.args.prices.now) c.args.customer numbers less in
    let earns = better.earns in
    omega (arith, earns, earned)

pub returns-in-Closed-clause-first : goal.returns-in-Closed-clause-first
returns-in-Closed-clause-first c =
    let g = c.args.self.now.inst.now in
    let sets = c.args.self.now.sets.now in
    let are = subst (λ (x : NearPriced). IsNearPriced c.args.self.now.inst.now (record { weight = c.in_ok-asked.asked.weight; prices = c.in_ok-asked.asked.of; sets = c.args.self.now.sets.now }) x) c.in-Closed.is c.in_ok-plan.ensures in
    let labels = subst (λ (w : ℕ). AreClosedLabels c.args.self.now.inst.now (record { weight = w; prices = c.in_ok-asked.asked.of; sets = c.args.self.now.sets.now }) c.in-Closed.labels) (ap (λ (a : Prices). a.weight) c.in_ok-asked.ensures) are in
    unserved g sets c.args.customer (length c.args.prices.now) (record { prices = c.in_ok-asked.asked.of; labels = c.in-Closed.labels }) c.requires.setting.network c.requires.open.count c.requires.open.customer (ap (λ (a : Prices). a.of) c.in_ok-asked.ensures) labels

pub meet-requires-clause-open : goal.meet-requires-clause-open
meet-requires-clause-open = grind (arith, common_steps)

pub near_price-requires-clause-small : goal.near_price-requires-clause-small
near_price-requires-clause-small = grind (arith, common_steps)

pub near_price-requires-clause-one_price : goal.near_price-requires-clause-one_price
near_price-requires-clause-one_price = grind (arith, common_steps)

pub meet-requires-clause-route : goal.meet-requires-clause-route
meet-requires-clause-route = grind (arith, common_steps)
