use Rattle.std.proofs.Common.{◌≡◌, ◌+◌, ◌<◌, ◌≤◌, ◌^◌, IfNone, IfSome, List, None, Option, Some, ap, arith, length, set, subst, sym}
use Rattle.std.proofs.lemmas.Grind.{common_steps}
use Rattle.std.specs.List.{All}
use Rattle.std.specs.Prelude.{slice_get}
use Rattle.std.proofs.lemmas.Option.{slice_get_within}
use Rattle.ev_model.specs.Time.{time_of}
use Rattle.fleet_model.specs.Places.{numbers_of}
use Rattle.near_pricing.specs.Answers.{AreClosedLabels, IsBetter, IsNearPriced}
use Rattle.near_pricing.specs.declared.priced.NearPriced.{NearPriced}
use Rattle.near_pricing.specs.declared.priced.Prices.{Prices}
use Rattle.near_proof.specs.declared.proof.NearLabel.{NearLabel}
use Rattle.ng_pricing.specs.Fixing.{IsFixed}
use Rattle.ng_pricing.specs.Rising.{terms_at}
use Rattle.ng_pricing.specs.declared.met.MetRoute.{MetRoute}
use Rattle.ng_pricing.proofs.PriceLimits.{falls, fixed_by, if_ok, limit_is_small, serves_by, small_set}
use Rattle.ng_pricing.proofs.setting.Setting.lowered.Goals as goal

pub near_price-requires-clause-small : goal.near_price-requires-clause-small
near_price-requires-clause-small c =
    let g = c.args.self.now.inst.now in
    let sets = c.args.self.now.sets.now in
    let prices = c.args.prices.now in
    let l = c.lower.limit in
    let count = c.requires.open.count in
    let inside = c.requires.open.customer in
    let less : c.args.customer < length c.args.prices.now = omega (arith, count, inside) in
    let low = limit_is_small g sets prices c.args.customer c.lower.met.items l less c.requires.open.free c.lower.invariant.met c.lower.invariant.limit in
    let most = c.requires.setting.network.small_limit in
    let small = small_set (10 ^ 18) c.args.customer l.price prices (omega arith) c.requires.open.small (omega (arith, low, most)) in
    subst (λ (a : Prices). All (λ p. p ≤ 10 ^ 18 + 1) a.of) (sym c.in_ok-asked.ensures) small

pub meet-requires-clause-serves : goal.meet-requires-clause-serves
meet-requires-clause-serves c =
    let g = c.args.self.now.inst.now in
    let stops = c.in-Better.plan.stops in
    let numbers = numbers_of c.args.self.now.inst.now c.in-Better.plan.stops in
    let better = subst (λ (x : NearPriced). IsNearPriced c.args.self.now.inst.now (record { weight = c.in_ok-asked.asked.weight; prices = c.in_ok-asked.asked.of; sets = c.args.self.now.sets.now }) x) c.in-Better.is c.in_ok-plan.ensures in
    let now = subst (λ (a : Prices). IsBetter c.args.self.now.inst.now (record { weight = a.weight; prices = a.of; sets = c.args.self.now.sets.now }) c.in-Better.plan) c.in_ok-asked.ensures better in
    let count = c.requires.open.count in
    let inside = c.requires.open.customer in
    let less : c.args.customer < length c.args.prices.now = omega (arith, count, inside) in
    let pays = c.requires.open.pays stops now.route in
    let earns = now.earns in
    serves_by c.args.prices.now c.args.customer c.lower.limit.price (time_of g 1 g.capacity stops) numbers less c.requires.open.free (omega (arith, pays)) (omega (arith, earns))

pub lower-smaller : goal.lower-smaller
lower-smaller c =
    let g = c.args.self.now.inst.now in
    let stops = c.in-Better.plan.stops in
    let numbers = numbers_of c.args.self.now.inst.now c.in-Better.plan.stops in
    let better = subst (λ (x : NearPriced). IsNearPriced c.args.self.now.inst.now (record { weight = c.in_ok-asked.asked.weight; prices = c.in_ok-asked.asked.of; sets = c.args.self.now.sets.now }) x) c.in-Better.is c.in_ok-plan.ensures in
    let now = subst (λ (a : Prices). IsBetter c.args.self.now.inst.now (record { weight = a.weight; prices = a.of; sets = c.args.self.now.sets.now }) c.in-Better.plan) c.in_ok-asked.ensures better in
    let count = c.requires.open.count in
    let inside = c.requires.open.customer in
    let less : c.args.customer < length c.args.prices.now = omega (arith, count, inside) in
    let earns = now.earns in
    falls c.args.prices.now c.args.customer c.lower.limit.price c.in_ok-limit-in-Better.limit.price (time_of g 1 g.capacity stops) numbers less c.requires.open.free c.in_ok-limit-in-Better.ensures.pays (omega (arith, earns))

pub meet-requires-clause-route : goal.meet-requires-clause-route
meet-requires-clause-route = grind (arith, common_steps)

pub meet-requires-clause-open : goal.meet-requires-clause-open
meet-requires-clause-open = grind (arith, common_steps)

pub fixed_at-requires-2 : goal.fixed_at-requires-2
fixed_at-requires-2 c =
    let limit = c.lower.invariant.limit in
    let within = slice_get_within c.lower.met.items c.lower.limit.route limit.route limit.is in
    let same = ap (λ (ms : List MetRoute). length ms) c.as_slice-2.ensures.value in
    omega (arith, within, same)

pub returns-in-Closed-clause-fixed : goal.returns-in-Closed-clause-fixed
returns-in-Closed-clause-fixed c = if_ok c.fixed_at.result
    (λ f. f.price ≡ c.lower.limit.price) (λ f. f.labels ≡ Some c.in-Closed.labels) (λ f. (r : MetRoute) → slice_get c.as_slice.result.now c.lower.limit.route ≡ Some r → f.tight ≡ r.plan)
    (IsFixed c.args.self.now.inst.now c.args.self.now.sets.now c.args.prices.now c.args.customer c.args.paid)
    c.fixed_at.ensures.price c.fixed_at.ensures.labels c.fixed_at.ensures.tight
    (λ f price some tight.
    let g = c.args.self.now.inst.now in
    let sets = c.args.self.now.sets.now in
    let prices = c.args.prices.now in
    let l = c.lower.limit in
    let count = c.requires.open.count in
    let inside = c.requires.open.customer in
    let less : c.args.customer < length c.args.prices.now = omega (arith, count, inside) in
    let are = subst (λ (x : NearPriced). IsNearPriced c.args.self.now.inst.now (record { weight = c.in_ok-asked.asked.weight; prices = c.in_ok-asked.asked.of; sets = c.args.self.now.sets.now }) x) c.in-Closed.is c.in_ok-plan.ensures in
    let labels = subst (λ (a : Prices). AreClosedLabels c.args.self.now.inst.now (record { weight = a.weight; prices = a.of; sets = c.args.self.now.sets.now }) c.in-Closed.labels) c.in_ok-asked.ensures are in
    let route = subst (λ (ms : List MetRoute). (r : MetRoute) → slice_get ms c.lower.limit.route ≡ Some r → f.tight ≡ r.plan) c.as_slice.ensures.value tight in
    let closed = subst (λ (o : Option (List NearLabel)). IfSome o (AreClosedLabels c.args.self.now.inst.now (terms_at c.args.self.now.sets.now (set c.args.prices.now c.args.customer c.lower.limit.price)))) (sym some) labels in
    let none = subst (λ (o : Option (List NearLabel)). IfNone o (c.lower.limit.price ≡ c.args.paid)) (sym some) tt in
    fixed_by g sets prices c.args.customer c.args.paid c.lower.met.items l f c.requires.setting.network less c.requires.open.free c.lower.invariant.met c.lower.invariant.limit price route closed none)

pub returns-clause-fixed : goal.returns-clause-fixed
returns-clause-fixed c = if_ok c.fixed_at-2.result
    (λ f. f.price ≡ c.lower.limit.price) (λ f. f.labels ≡ None) (λ f. (r : MetRoute) → slice_get c.as_slice-2.result.now c.lower.limit.route ≡ Some r → f.tight ≡ r.plan)
    (IsFixed c.args.self.now.inst.now c.args.self.now.sets.now c.args.prices.now c.args.customer c.args.paid)
    c.fixed_at-2.ensures.price c.fixed_at-2.ensures.labels c.fixed_at-2.ensures.tight
    (λ f price none tight.
    let g = c.args.self.now.inst.now in
    let sets = c.args.self.now.sets.now in
    let prices = c.args.prices.now in
    let l = c.lower.limit in
    let count = c.requires.open.count in
    let inside = c.requires.open.customer in
    let less : c.args.customer < length c.args.prices.now = omega (arith, count, inside) in
    let route = subst (λ (ms : List MetRoute). (r : MetRoute) → slice_get ms c.lower.limit.route ≡ Some r → f.tight ≡ r.plan) c.as_slice-2.ensures.value tight in
    let closed = subst (λ (o : Option (List NearLabel)). IfSome o (AreClosedLabels c.args.self.now.inst.now (terms_at c.args.self.now.sets.now (set c.args.prices.now c.args.customer c.lower.limit.price)))) (sym none) tt in
    let same = subst (λ (o : Option (List NearLabel)). IfNone o (c.lower.limit.price ≡ c.args.paid)) (sym none) c.lower-test.false in
    fixed_by g sets prices c.args.customer c.args.paid c.lower.met.items l f c.requires.setting.network less c.requires.open.free c.lower.invariant.met c.lower.invariant.limit price route closed same)
