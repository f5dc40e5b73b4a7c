use Rattle.std.proofs.Common.{◌≡◌, ◌+◌, IfNone, IfSome, ℕ, Option, subst, sym}
use Rattle.ev_model.specs.Fleet.{times_in}
use Rattle.ng_pricing.specs.Met.{IsAllowed}
use Rattle.ng_pricing.proofs.PriceLimits.{least_with, least_without, LeastOf}
use Rattle.ng_pricing.specs.declared.met.Limit.{Limit}
use Rattle.ng_pricing.proofs.limits.least_limit.Goals.{in-Some, in_default}
use Rattle.ng_pricing.proofs.limits.least_limit.Goals as goal

pub loop-route-preserved : goal.loop-route-preserved
loop-route-preserved c =
    let prices = c.args.prices.now in
    let met = c.args.met.now in
    let r = c.index-met-route.result in
    let n = c.loop-route.route in
    let old : LeastOf c.args.prices.now c.args.customer c.args.met.now c.loop-route.route c.loop-route.least = record { some = c.loop-route.invariant.some; least = c.loop-route.invariant.least; none = c.loop-route.invariant.none } in
    elim c.match-allowed.branch [
      | in-Some w ↦
          let allowed = subst (λ (o : Option ℕ). IfSome o (IsAllowed c.args.prices.now c.args.customer c.index-met-route.result)) w.in-Some.is c.allowed.ensures.some in
          let next = least_with prices c.args.customer met n r c.requires.customer c.requires.free c.requires.pays c.loop-route-test.true c.index-met-route.is c.loop-route.least w.in-Some.price w.lesser.result old allowed w.lesser.ensures.one w.lesser.ensures.within w.lesser.ensures.least in
          let all = subst (λ (o : Option Limit). LeastOf c.args.prices.now c.args.customer c.args.met.now (c.loop-route.route + 1) o) (sym w.least-is) next in
          record { some = all.some; least = all.least; none = all.none }
      | in_default w ↦
          let unserved = subst (λ (o : Option ℕ). IfNone o (times_in c.index-met-route.result.numbers c.args.customer ≡ 0)) w.in_default.is c.allowed.ensures.none in
          let next = least_without prices c.args.customer met n r c.requires.customer c.requires.free c.requires.pays c.loop-route-test.true c.index-met-route.is c.loop-route.least old unserved in
          let all = subst (λ (o : Option Limit). LeastOf c.args.prices.now c.args.customer c.args.met.now (c.loop-route.route + 1) o) (sym w.least-is) next in
          record { some = all.some; least = all.least; none = all.none }
    ]
