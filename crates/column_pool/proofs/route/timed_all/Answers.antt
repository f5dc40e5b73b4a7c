use Rattle.std.proofs.Common.{◌≡◌, ◌∙◌, ◌++◌, ◌∷◌, [], List, ap, append_assoc, arith, length, map, subst, sym}
use Rattle.std.proofs.lemmas.Grind.{common_steps}
use Rattle.std.proofs.lemmas.List.Elements.{All-tail}
use Rattle.std.specs.Vec.Iter.{into_iter_items}
use Rattle.pricing.specs.declared.priced.PricedRoute.{PricedRoute}
use Rattle.route_pool.specs.Pool.{IsColumn, IsPool}
use Rattle.column_pool.specs.Nodes.{timed}
use Rattle.column_pool.specs.declared.route.NodeRoute.{NodeRoute}
use Rattle.column_pool.proofs.route.timed_all.Goals as goal

pub loop-route-preserved : goal.loop-route-preserved
loop-route-preserved c =
    let g = c.args.inst.now in
    let found = c.loop-route.found.items in
    let rest = into_iter_items c.next.new.self in
    let steps : into_iter_items c.loop-route.route-iterator ≡ c.in-Some.route ∷ rest = c.in-Some.ensures.steps.0 in
    let gone = c.in-Some.ensures.steps.1 in
    let short = ap length steps in
    record {
      made =
          ap (λ (xs : List NodeRoute). xs ++ map (timed g) rest) c.in_ok-push.ensures.items
          ∙ append_assoc found (c.timed.result ∷ []) (map (timed g) rest)
          ∙ ap (λ (r : NodeRoute). found ++ (r ∷ map (timed g) rest)) c.timed.ensures
          ∙ ap (λ (rs : List PricedRoute). found ++ map (timed g) rs) (sym steps)
          ∙ c.loop-route.invariant.made;
      left = All-tail (λ (r : PricedRoute). IsColumn g r.order.items r.plan.stops) c.in-Some.route rest (subst (λ (rs : List PricedRoute). IsPool g rs) steps c.loop-route.invariant.left);
      count = (let was = c.loop-route.invariant.count in omega (arith, was, gone, short));
    }

pub returns : goal.returns
returns = grind (arith, common_steps)
