use Rattle.std.proofs.Common.{◌≡◌, ◌+◌, length}
use Rattle.std.specs.List.{All}
use Rattle.std.specs.Vec.Iter.{into_iter_items, into_iter_len}
use Rattle.price_loop.specs.Masters.{IsMaster}
use Rattle.price_loop.proofs.master.add_all.Given as goal

abbrev pub invariant-loop-route : goal.invariant-loop-route
invariant-loop-route g l = record {
  master : IsMaster (g.E.Earners.problem l.earners) l.fn.master.table.caps l.master;
  left : All (g.E.Earners.problem l.earners).is_route (into_iter_items l.route-iterator);
  more : length l.master.routes.items + length (into_iter_items l.route-iterator) ≡ length l.fn.master.routes.items + length l.fn.routes.items;
  count : into_iter_len l.route-iterator ≡ length (into_iter_items l.route-iterator);
}
