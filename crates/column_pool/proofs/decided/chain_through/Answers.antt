use Rattle.std.proofs.Common.{◌≡◌, ◌∙◌, ◌<◌, ◌<ℤ◌, ℕ, ℤ, pos, List, [], ◌∷◌, ◌++◌, Option, arith, ap, length, subst, sym}
use Rattle.std.proofs.lemmas.Grind.{common_steps}
use Rattle.std.specs.Prelude.{MatchOption}
use Rattle.std.specs.List.{All}
use Rattle.std.proofs.lemmas.Int.{ints}
use Rattle.closed_lists.specs.Questions.{Question}
use Rattle.ev_model.specs.Fastest.{HasNoPlan, IsFastest}
use Rattle.fleet_model.specs.Prices.{price_total}
use Rattle.fleet_model.proofs.Counts.{number_less}
use Rattle.fleet_model.proofs.Numbers.{counted}
use Rattle.ev_model.specs.Network.{node_count}
use Rattle.pricing.specs.Answers.{AreClosed, IsPriced}
use Rattle.pricing.specs.Better.{IsBetter}
use Rattle.pricing.specs.declared.priced.Priced.TheVariants.{Better}
use Rattle.route_plan.specs.declared.plan.RoutePlan.{RoutePlan}
use Rattle.bound_certificate.specs.Ranges.{IsPrice}
use Rattle.column_pool.specs.Columns.{IsNodeRoute}
use Rattle.column_pool.proofs.Sections.{section_closed}
use Rattle.column_pool.proofs.MorePrices.{lone_length, lone_small, lone_sum}
use Rattle.column_pool.proofs.Through.{chain_of, route_over, serves_lone}
use Rattle.column_pool.proofs.decided.chain_through.Goals as goal

pub lone_price-requires : goal.lone_price-requires
lone_price-requires c =
    let g = c.args.inst.now in
    let less = number_less g c.args.node (node_count g) c.requires.customer c.requires.known in
    let all = counted g in
    let same = ap length c.customers.ensures.value in
    let number = c.requires.number in
    omega (arith, number, less, all, same)

pub solve_route-requires-clause-route : goal.solve_route-requires-clause-route
solve_route-requires-clause-route c =
    let g = c.args.inst.now in
    let p = c.args.pairs.now in
    let q : Question = record { network = c.args.inst.now; pairs = c.args.pairs.now; weight = 0; prices = c.in_ok-lone_price.field-0.items; labels = [] } in
    let priced : IsPriced q (Better c.in-Better.plan c.in-Better.order c.in-Better.further) = subst (IsPriced q) c.in-Better.is c.in_ok-labels.ensures in
    let is : IsNodeRoute g p c.in-Better.plan.stops = record { route = priced.0.route; keeps = priced.0.keeps } in
    let made : c.deref-in-Better.result.now ≡ 0 ∷ c.in-Better.order.items ++ 0 ∷ [] = c.deref-in-Better.ensures.value ∙ c.in_ok-route-in-Better.ensures ∙ ap (λ (xs : List ℕ). 0 ∷ xs ++ 0 ∷ []) c.deref.ensures.value in
    let known = c.requires.known in
    route_over g p c.in-Better.plan.stops is c.in-Better.order.items priced.0.serves (omega (arith, known)) c.deref-in-Better.result.now made

pub returns-in-Closed : goal.returns-in-Closed
returns-in-Closed c =
    let g = c.args.inst.now in
    let p = c.args.pairs.now in
    let n = length c.customers.result.now in
    let prices = c.in_ok-lone_price.field-0.items in
    let q : Question = record { network = c.args.inst.now; pairs = c.args.pairs.now; weight = 0; prices = c.in_ok-lone_price.field-0.items; labels = [] } in
    let closed : AreClosed q c.in-Closed.labels.items = subst (IsPriced q) c.in-Closed.is c.in_ok-labels.ensures in
    let told = c.section_of.ensures in
    let count : length prices ≡ n = ap length c.in_ok-lone_price.ensures ∙ lone_length n c.args.number in
    let small : All IsPrice prices = subst (All IsPrice) (sym c.in_ok-lone_price.ensures) (lone_small n c.args.number) in
    let below = number_less g c.args.node (node_count g) c.requires.customer c.requires.known in
    let all = counted g in
    let same = ap length c.customers.ensures.value in
    let number = c.requires.number in
    let less : c.args.number < n = omega (arith, number, below, all, same) in
    let sum : price_total c.section_of.result.prices ≡ pos 1 = ap price_total (told.prices ∙ c.in_ok-lone_price.ensures) ∙ lone_sum n c.args.number less in
    record {
      section = section_closed g p c.section_of.result 0 prices c.in-Closed.labels.items closed told.pairs told.weight told.prices told.labels c.requires.pairs (omega arith) (count ∙ ap length c.customers.ensures.value) small told.few;
      none = (told.weight, subst (λ (z : ℤ). pos 0 <ℤ z) (sym sum) (omega (arith, ints)));
    }

pub returns-in-Some : goal.returns-in-Some
returns-in-Some c =
    let g = c.args.inst.now in
    let p = c.args.pairs.now in
    let n = length c.customers.result.now in
    let stops = c.in-Better.plan.stops in
    let order = c.in-Better.order.items in
    let route = c.deref-in-Better.result.now in
    let q : Question = record { network = c.args.inst.now; pairs = c.args.pairs.now; weight = 0; prices = c.in_ok-lone_price.field-0.items; labels = [] } in
    let priced : IsPriced q (Better c.in-Better.plan c.in-Better.order c.in-Better.further) = subst (IsPriced q) c.in-Better.is c.in_ok-labels.ensures in
    let is : IsNodeRoute g p stops = record { route = priced.0.route; keeps = priced.0.keeps } in
    let made : route ≡ 0 ∷ order ++ 0 ∷ [] = c.deref-in-Better.ensures.value ∙ c.in_ok-route-in-Better.ensures ∙ ap (λ (xs : List ℕ). 0 ∷ xs ++ 0 ∷ []) c.deref.ensures.value in
    let found : IsFastest g route c.max_q.result c.in-Some.plan.stops = subst (λ (o : Option RoutePlan). MatchOption o (HasNoPlan g route c.max_q.result) (λ (plan : RoutePlan). IsFastest g route c.max_q.result plan.stops)) c.in-Some.is c.in_ok-plan-in-Better.ensures in
    let fastest : IsFastest g route g.capacity c.in-Some.plan.stops = subst (λ (k : ℕ). IsFastest g route k c.in-Some.plan.stops) c.max_q.ensures.value found in
    let chain = chain_of g p stops is order priced.0.serves route made c.in-Some.plan.stops fastest in
    let lone = subst (λ (ps : List ℤ). IsBetter (record { network = g; pairs = p; weight = 0; prices = ps; labels = [] }) stops order) c.in_ok-lone_price.ensures priced.0 in
    (chain.0, chain.1, serves_lone g p n c.args.number c.args.node stops order c.requires.number c.requires.customer lone)

pub price-requires-clause-small_prices : goal.price-requires-clause-small_prices
price-requires-clause-small_prices = grind (arith, common_steps)

pub price-requires-clause-one_price : goal.price-requires-clause-one_price
price-requires-clause-one_price = grind (arith, common_steps)
