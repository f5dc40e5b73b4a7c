use Rattle.std.proofs.Common.{◌∙◌, List, arith, subst, sym}
use Rattle.std.proofs.lemmas.Grind.{common_steps}
use Rattle.std.specs.List.{All}
use Rattle.price_loop.specs.Problems.{IsEarned, IsEarning}
use Rattle.price_loop.specs.declared.earners.Earned.{Earned}
use Rattle.price_loop.proofs.Final.{holds_at, payable, worth_more}
use Rattle.price_loop.proofs.rising.excess_found.Goals as goal

pub returns-in-Closed-clause-none : goal.returns-in-Closed-clause-none
returns-in-Closed-clause-none g c =
    let q = g.E.Earners.problem c.args.earners.now in
    let ps = c.deref.result.now in
    let same = c.deref.ensures.value ∙ c.in_ok-prices.ensures.of in
    let earned = subst (λ (x : Earned g.row.E-Route.Denot g.row.E-Closing.Denot). IsEarned q 1 ps x) c.in-Closed.is c.in_ok-earn.ensures in
    payable q 1 c.args.of.now ps same earned.none

pub excess-most-requires-clause-earns : goal.excess-most-requires-clause-earns
excess-most-requires-clause-earns g c =
    let q = g.E.Earners.problem c.args.earners.now in
    let ps = c.deref.result.now in
    let same = c.deref.ensures.value ∙ c.in_ok-prices.ensures.of in
    let earned = subst (λ (x : Earned g.row.E-Route.Denot g.row.E-Closing.Denot). IsEarned q 1 ps x) c.in-Better.is c.in_ok-earn.ensures in
    let more = worth_more q 1 c.args.of.now ps same c.in-Better.first earned.0 in
    omega (arith, more)

pub excess-other-requires-clause-earns : goal.excess-other-requires-clause-earns
excess-other-requires-clause-earns g c =
    let q = g.E.Earners.problem c.args.earners.now in
    let ps = c.deref.result.now in
    let same = c.deref.ensures.value ∙ c.in_ok-prices.ensures.of in
    let earned = subst (λ (x : Earned g.row.E-Route.Denot g.row.E-Closing.Denot). IsEarned q 1 ps x) c.in-Better.is c.in_ok-earn.ensures in
    let all = subst (λ (rs : List g.row.E-Route.Denot). All (IsEarning q 1 ps) rs) (sym c.deref-route-items.ensures.value) earned.1 in
    let better = holds_at (IsEarning q 1 ps) c.deref-route-items.result.now c.loop-route.route-index c.route-item.result c.loop-route-test.true c.route-item.is all in
    let more = worth_more q 1 c.args.of.now ps same c.route-item.result better in
    omega (arith, more)

pub loop-route-init : goal.loop-route-init
loop-route-init = grind (arith, common_steps)

pub excess-other-requires-clause-route : goal.excess-other-requires-clause-route
excess-other-requires-clause-route = grind (arith, common_steps)
