use Rattle.std.proofs.Common.{◌≡◌, ◌<◌, List, ℕ, subst, sym, true}
use Rattle.std.specs.List.{All}
use Rattle.ev_model.specs.Network.{is_customer, node_count}
use Rattle.route_pool.proofs.Known.{column_customers, column_known}
use Rattle.column_pool.specs.Nodes.{IsColumnOf, Node}
use Rattle.column_pool.proofs.earners.NodeEarnersEarners.set.Goals as goal

pub set_of-requires-clause-known : goal.set_of-requires-clause-known
set_of-requires-clause-known c =
    let g = c.self.inside.inst.now in
    let r = c.args.route.now in
    let column = subst (λ (n : Node). IsColumnOf n.network r) (sym c.self.view_is) c.requires.column in
    subst (λ (ns : List ℕ). All (λ node. node < node_count g) ns) (sym c.as_slice.ensures) (column_known g r.order r.plan.stops column)

pub set_of-requires-clause-customers : goal.set_of-requires-clause-customers
set_of-requires-clause-customers c =
    let g = c.self.inside.inst.now in
    let r = c.args.route.now in
    let column = subst (λ (n : Node). IsColumnOf n.network r) (sym c.self.view_is) c.requires.column in
    subst (λ (ns : List ℕ). All (λ node. is_customer g node ≡ true) ns) (sym c.as_slice.ensures) (column_customers g r.order r.plan.stops column)
