use Rattle.std.proofs.Common.{◌≡◌, ◌++◌, drop, map}
use Rattle.pricing.specs.declared.priced.PricedRoute.{PricedRoute}
use Rattle.mixed_fleet.specs.Searched.{searched_of}
use Rattle.mixed_fleet.proofs.earners.all_searched.Given as goal

abbrev pub invariant-loop-route : goal.invariant-loop-route
invariant-loop-route l =
    l.found.items ++ map (λ (r : PricedRoute). searched_of l.inst l.kind r.order.items r.plan) (drop l.route-index l.routes)
    ≡ map (λ (r : PricedRoute). searched_of l.inst l.kind r.order.items r.plan) l.routes
