use Rattle.std.proofs.Common.{◌∙◌, ℕ, List, ap, length, map, subst, sym}
use Rattle.std.specs.List.{All}
use Rattle.bound_certificate.specs.declared.certificate.Share.{Share}
use Rattle.price_loop.specs.Columns.{HasRoute}
use Rattle.column_pool.specs.Bounds.{IsExact}
use Rattle.column_pool.specs.Columns.{share_of}
use Rattle.column_pool.proofs.NodeBounds.{empty_node, exact_node, node_section, shares_placed}
use Rattle.column_pool.proofs.exact.bound_of.Goals as goal

pub returns-then-weight-eq0 : goal.returns-then-weight-eq0
returns-then-weight-eq0 c body cost =
    let g = c.args.inst.now in
    let p = c.args.pairs.now in
    let routes = c.args.routes.now in
    let s = c.section_of-section.result in
    let told = c.section_of-section.ensures in
    let is = c.requires.over in
    let node = node_section g p routes c.args.lp c.args.labels is s told.weight told.prices told.pairs told.labels c.requires.pairs told.few in
    empty_node g p routes c.args.lp c.args.labels is s told.weight told.prices c.if-weight-eq0.true node

pub shares_of-requires : goal.shares_of-requires
shares_of-requires c =
    let n : ℕ = length c.customers.result.now in
    let same = ap length c.customers.ensures.value in
    let placed = shares_placed c.args.inst.now c.args.pairs.now c.args.routes.now c.args.lp c.args.labels c.requires.over c.if-weight-eq0.false n same in
    subst (λ (xs : List (ℕ × ℕ)). All (HasRoute n c.args.routes.now) xs) (sym c.deref.ensures.value) placed

pub returns : goal.returns
returns c body cost =
    let g = c.args.inst.now in
    let p = c.args.pairs.now in
    let routes = c.args.routes.now in
    let lp = c.args.lp in
    let s = c.section_of-section.result in
    let told = c.section_of-section.ensures in
    let is = c.requires.over in
    let shares = c.in_ok-shares.shares in
    let n : ℕ = length c.customers.result.now in
    let same = ap length c.customers.ensures.value in
    let are = c.in_ok-shares.ensures ∙ ap (λ xs. map (share_of n routes) xs) c.deref.ensures.value in
    let node = node_section g p routes lp c.args.labels is s told.weight told.prices told.pairs told.labels c.requires.pairs told.few in
    let base = exact_node g p routes lp c.args.labels is s told.weight told.prices c.if-weight-eq0.false n shares same c.nodes-nodes.ensures.network node are in
    subst (λ (xs : List Share). IsExact g p s lp.over xs) (sym c.from_vec.ensures) base
