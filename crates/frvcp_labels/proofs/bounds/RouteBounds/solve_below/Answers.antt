use Rattle.std.proofs.Common.{◌∙◌, ◌≤◌, subst, sym}
use Rattle.ev_model.specs.Network.{Network}
use Rattle.ev_model.specs.Route.{IsRoute}
use Rattle.route_steps.proofs.WayHomePlans.{is_trip}
use Rattle.frvcp_labels.proofs.bounds.RouteBounds.solve_below.Goals as goal

pub invariant_of-trip : goal.invariant_of-trip
invariant_of-trip c = record {
  trip = is_trip c.self.inside.inst.now c.args.route.now c.nodes-nodes.ensures.network (subst (λ (g : Network). IsRoute g c.args.route.now) (sym c.self.view_is) c.requires.route);
  are_stations = c.deref.ensures.value ∙ c.self.invariant.are_stations;
  start = subst (λ (g : Network). c.args.start ≤ g.capacity) (sym c.self.view_is) c.requires.start;
  rest = c.in_ok-rest.ensures;
}
