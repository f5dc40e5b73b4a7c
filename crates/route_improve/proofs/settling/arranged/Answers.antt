use Rattle.std.proofs.Common.{List, refl, subst}
use Rattle.std.specs.List.Sorted.{IsPermutation}
use Rattle.route_improve.specs.declared.route.Route.{Route}
use Rattle.route_improve.proofs.settling.arranged.Goals as goal

pub returns : goal.returns
returns c = record {
  front = c.sort_by_first.new.routes.items;
  empty = record { order = c.new.result; time = 0 };
  is = c.in_ok-push.ensures.items;
  none = c.new.ensures.items;
  no_time = refl;
  same = subst (λ (l : List Route). IsPermutation l c.sort_by_first.new.routes.items) c.in_ok-served.ensures c.sort_by_first.ensures.same;
  order = c.sort_by_first.ensures.order;
}
