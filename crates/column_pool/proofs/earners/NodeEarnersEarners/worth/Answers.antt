use Rattle.std.proofs.Common.{◌≡◌, ◌<◌, List, ℕ, subst, sym, true}
use Rattle.std.specs.List.{All}
use Rattle.ev_model.specs.Network.{is_customer, node_count}
use Rattle.route_pool.proofs.Known.{column_customers, column_known}
use Rattle.column_pool.specs.Nodes.{IsColumnOf, Node}
use Rattle.column_pool.proofs.earners.NodeEarnersEarners.worth.Goals as goal

pub worth-requires-clause-known : goal.worth-requires-clause-known
worth-requires-clause-known c =
    let g = c.self.inside.inst.now in
    let r = c.args.route.now in
    let column = subst (λ (n : Node). IsColumnOf n.network r) (sym c.self.view_is) c.requires.route.column in
    subst (λ (ns : List ℕ). All (λ node. node < node_count g) ns) (sym c.as_slice.ensures) (column_known g r.order r.plan.stops column)

pub worth-requires-clause-customers : goal.worth-requires-clause-customers
worth-requires-clause-customers c =
    let g = c.self.inside.inst.now in
    let r = c.args.route.now in
    let column = subst (λ (n : Node). IsColumnOf n.network r) (sym c.self.view_is) c.requires.route.column in
    subst (λ (ns : List ℕ). All (λ node. is_customer g node ≡ true) ns) (sym c.as_slice.ensures) (column_customers g r.order r.plan.stops column)
