use Rattle.std.proofs.Common.{List, ℕ, ℤ, subst, sym}
use Rattle.std.specs.List.{All}
use Rattle.price_loop.specs.Problems.{IsEarning}
use Rattle.pricing.specs.Answers.{IsPriced}
use Rattle.pricing.specs.declared.priced.Priced.{Priced}
use Rattle.pricing.specs.declared.priced.PricedRoute.{PricedRoute}
use Rattle.column_pool.specs.Nodes.{asked, node_problem}
use Rattle.column_pool.specs.declared.route.NodeRoute.{NodeRoute}
use Rattle.column_pool.proofs.Routes.{all_earn, better_earns, closing}
use Rattle.column_pool.proofs.pricing_problem.earn.Goals as goal

pub returns-in-Closed : goal.returns-in-Closed
returns-in-Closed c =
    let g = c.args.inst.now in
    let p = c.args.pairs.now in
    let ps = c.in_ok-prices.prices in
    let found = c.in_ok-labels.field-0 in
    let weighted = subst (λ (w : ℕ). IsPriced (asked g p w ps.of.items) found) c.in_ok-prices.ensures.weight c.in_ok-labels.ensures in
    let priced = subst (λ (qs : List ℤ). IsPriced (asked g p c.args.weight qs) found) c.in_ok-prices.ensures.of weighted in
    let are = subst (λ (x : Priced). IsPriced (asked g p c.args.weight c.args.prices.now) x) c.in-Closed.is priced in
    closing g p c.args.weight c.args.prices.now c.in-Closed.labels c.requires.one_price are c.nodes-nodes.ensures.network

pub returns : goal.returns
returns c =
    let g = c.args.inst.now in
    let p = c.args.pairs.now in
    let ps = c.in_ok-prices.prices in
    let found = c.in_ok-labels.field-0 in
    let weighted = subst (λ (w : ℕ). IsPriced (asked g p w ps.of.items) found) c.in_ok-prices.ensures.weight c.in_ok-labels.ensures in
    let priced = subst (λ (qs : List ℤ). IsPriced (asked g p c.args.weight qs) found) c.in_ok-prices.ensures.of weighted in
    let are = subst (λ (x : Priced). IsPriced (asked g p c.args.weight c.args.prices.now) x) c.in-Better.is priced in
    let route : PricedRoute = record { plan = c.in-Better.plan; order = c.in-Better.order } in (
      subst (λ (r : NodeRoute). IsEarning (node_problem g p) c.args.weight c.args.prices.now r) (sym c.timed-first.ensures) (better_earns g p c.args.weight c.args.prices.now route are.0),
      subst (λ (rs : List NodeRoute). All (IsEarning (node_problem g p) c.args.weight c.args.prices.now) rs) (sym c.in_ok-further-in-Better.ensures) (all_earn g p c.args.weight c.args.prices.now c.in-Better.further.items are.1),
    )
