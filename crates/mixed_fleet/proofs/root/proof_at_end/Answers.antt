use Rattle.std.proofs.Common.{◌≡◌, ◌∙◌, ◌≤◌, List, ℕ, ap, arith, length, map, subst, sym}
use Rattle.std.proofs.lemmas.Grind.{common_steps}
use Rattle.std.proofs.lemmas.Int.{ints}
use Rattle.std.specs.List.{All}
use Rattle.ev_model.specs.Network.{Network}
use Rattle.instance_reader.specs.Instance.{customer_nodes}
use Rattle.certificate_parts.specs.Limits.{most_items}
use Rattle.mixed_model.specs.Kinds.{first_of}
use Rattle.mixed_model.specs.declared.proof.MixedRoot.TheVariants.{Exact}
use Rattle.mixed_model.specs.declared.proof.MixedShare.{MixedShare}
use Rattle.mixed_model.proofs.KindNumbers.{kind_is}
use Rattle.mixed_fleet.specs.Roots.{IsRightRoot}
use Rattle.price_loop.specs.Columns.{HasRoute}
use Rattle.mixed_fleet.specs.Shares.{share_at}
use Rattle.mixed_fleet.proofs.Ends.{exact_root, exact_sum, ray_sum, shares_placed}
use Rattle.mixed_fleet.proofs.root.proof_at_end.Goals as goal

pub proof_with-requires-clause-some : goal.proof_with-requires-clause-some
proof_with-requires-clause-some c =
    let above = ray_sum c.args.kinds.now c.args.lp c.args.routes.now c.args.closing c.requires.closed c.if-weight-eq0.true in
    omega (arith, ints, above)

pub proof_with-requires-clause-above : goal.proof_with-requires-clause-above
proof_with-requires-clause-above c = ray_sum c.args.kinds.now c.args.lp c.args.routes.now c.args.closing c.requires.closed

pub proof_with-requires-clause-root : goal.proof_with-requires-clause-root
proof_with-requires-clause-root c = (
  c.if-weight-eq0.true,
  ray_sum c.args.kinds.now c.args.lp c.args.routes.now c.args.closing c.requires.closed c.if-weight-eq0.true,
)

pub shares_of-requires : goal.shares_of-requires
shares_of-requires c =
    let kinds = c.args.kinds.now in
    let n : ℕ = length c.customers.result.now in
    let same = kind_is kinds 0 c.index-kinds-0.result (omega (arith, c.requires.fleet.are.some)) c.index-kinds-0.is in
    let count : n ≡ length (customer_nodes (first_of kinds)) = ap length c.customers.ensures.value ∙ ap (λ (g : Network). length (customer_nodes g)) (sym same) in
    subst (λ (xs : List (ℕ × ℕ)). All (HasRoute n c.args.routes.now) xs) (sym c.deref.ensures.value)
    (shares_placed kinds c.args.lp c.args.routes.now c.args.closing c.requires.closed n count c.if-weight-eq0.false)

pub proof_with-requires-2-clause-some : goal.proof_with-requires-2-clause-some
proof_with-requires-2-clause-some c = exact_sum c.args.kinds.now c.args.lp c.args.routes.now c.args.closing c.requires.closed c.if-weight-eq0.false

pub proof_with-requires-2-clause-root : goal.proof_with-requires-2-clause-root
proof_with-requires-2-clause-root c =
    let kinds = c.args.kinds.now in
    let lp = c.args.lp in
    let routes = c.args.routes.now in
    let n : ℕ = length c.customers.result.now in
    let same = kind_is kinds 0 c.index-kinds-0.result (omega (arith, c.requires.fleet.are.some)) c.index-kinds-0.is in
    let count : n ≡ length (customer_nodes (first_of kinds)) = ap length c.customers.ensures.value ∙ ap (λ (g : Network). length (customer_nodes g)) (sym same) in
    let found = c.in_ok-found.found in
    let few : length found.items ≤ most_items = (let a = found.ok.0 in let b = found.small in omega (arith, a, b)) in
    let made = c.in_ok-found.ensures ∙ ap (λ (xs : List (ℕ × ℕ)). map (share_at n routes) xs) c.deref.ensures.value in
    subst (λ (xs : List MixedShare). IsRightRoot kinds lp.weight lp.prices.items (Exact lp.over xs)) (sym c.from_vec.ensures)
    (exact_root kinds lp routes c.args.closing c.requires.closed c.requires.fleet n count c.if-weight-eq0.false found.items few made)

pub proof_with-requires-2-clause-above : goal.proof_with-requires-2-clause-above
proof_with-requires-2-clause-above = grind (arith, common_steps)
