use Rattle.std.proofs.Common.{◌<◌, ℕ, List, subst, sym}
use Rattle.std.specs.List.{All}
use Rattle.ev_model.specs.Network.{node_count}
use Rattle.route_pool.specs.Placed.{IsRouteAt}
use Rattle.route_pool.proofs.Known.{column_known}
use Rattle.route_pool.proofs.Kept.{kept_at, keeps_at}
use Rattle.route_pool.proofs.partial_pricing.is_kept.Goals as goal

pub keeps_pairs-requires-clause-known : goal.keeps_pairs-requires-clause-known
keeps_pairs-requires-clause-known c =
    let column = c.in-Some.ensures.column c.args.inst.now c.requires.pool in
    let known = column_known c.args.inst.now c.in-Some.order.now.items c.in-Some.field-0-1.now.plan.stops column in
    subst (λ (ns : List ℕ). All (λ node. node < node_count c.args.inst.now) ns) (sym c.deref.ensures.value) known

pub returns-in-Some : goal.returns-in-Some
returns-in-Some c =
    let g = c.args.inst.now in
    let p = c.args.pairs.now in
    let routes = c.args.pool.now in
    let order = c.deref.result.now in
    let plan = c.in-Some.field-0-1.now.plan in
    let is = subst (λ (ns : List ℕ). IsRouteAt routes c.args.at ns plan) (sym c.deref.ensures.value) c.in-Some.ensures.placed in (
      λ kept. kept_at g p routes c.args.at order plan is (c.keeps_pairs.ensures.0 kept),
      λ keeps. c.keeps_pairs.ensures.1 (keeps_at g p routes c.args.at order plan is keeps),
    )
