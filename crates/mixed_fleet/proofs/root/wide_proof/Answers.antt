use Rattle.std.proofs.Common.{◌≡◌, ◌∙◌, ◌≤◌, List, ℕ, ap, arith, length, refl, subst, sym}
use Rattle.std.proofs.lemmas.Grind.{common_steps}
use Rattle.std.proofs.lemmas.Int.{ints}
use Rattle.std.proofs.lemmas.List.{length-map}
use Rattle.ev_model.specs.Network.{Network}
use Rattle.instance_reader.specs.Instance.{customer_nodes}
use Rattle.certificate_parts.specs.Limits.{most_items}
use Rattle.piece_fn.specs.declared.label.Label.{Label}
use Rattle.price_loop.specs.Rising.{IsRisen}
use Rattle.price_loop.specs.declared.rising.Risen.{Risen}
use Rattle.mixed_model.specs.Kinds.{first_of}
use Rattle.mixed_model.specs.declared.proof.MixedRoute.{MixedRoute}
use Rattle.mixed_model.proofs.KindNumbers.{kind_is}
use Rattle.mixed_fleet.specs.Problem.{problem_of}
use Rattle.mixed_fleet.specs.declared.searched.Searched.{Searched}
use Rattle.mixed_fleet.proofs.Ends.{nowhere_sum, rising_root, rising_sum}
use Rattle.mixed_fleet.proofs.root.wide_proof.Goals as goal

abbrev Rises : List Network → Risen (List (List Label)) → Type 0
Rises kinds r = IsRisen (problem_of kinds) r

pub proof_with-requires-clause-some : goal.proof_with-requires-clause-some
proof_with-requires-clause-some g c =
    let risen = subst (λ (ks : List Network). Rises ks c.in_ok-prices.field-0) c.new.ensures c.in_ok-prices.ensures in
    let is = subst (Rises c.args.kinds.now) c.in-Nowhere.is risen in
    let above = nowhere_sum c.args.kinds.now c.requires.fleet c.in-Nowhere.prices.items c.in-Nowhere.closing c.in-Nowhere.customer is in
    omega (arith, ints, above)

pub proof_with-requires-clause-above : goal.proof_with-requires-clause-above
proof_with-requires-clause-above g c none =
    let risen = subst (λ (ks : List Network). Rises ks c.in_ok-prices.field-0) c.new.ensures c.in_ok-prices.ensures in
    let is = subst (Rises c.args.kinds.now) c.in-Nowhere.is risen in
    nowhere_sum c.args.kinds.now c.requires.fleet c.in-Nowhere.prices.items c.in-Nowhere.closing c.in-Nowhere.customer is

pub proof_with-requires-clause-root : goal.proof_with-requires-clause-root
proof_with-requires-clause-root g c =
    let risen = subst (λ (ks : List Network). Rises ks c.in_ok-prices.field-0) c.new.ensures c.in_ok-prices.ensures in
    let is = subst (Rises c.args.kinds.now) c.in-Nowhere.is risen in
    (refl, nowhere_sum c.args.kinds.now c.requires.fleet c.in-Nowhere.prices.items c.in-Nowhere.closing c.in-Nowhere.customer is)

pub proof_with-requires-in-Priced-clause-some : goal.proof_with-requires-in-Priced-clause-some
proof_with-requires-in-Priced-clause-some g c =
    let risen = subst (λ (ks : List Network). Rises ks c.in_ok-prices.field-0) c.new.ensures c.in_ok-prices.ensures in
    let is = subst (Rises c.args.kinds.now) c.in-Priced.is risen in
    rising_sum c.args.kinds.now c.requires.fleet c.in-Priced.prices.items c.in-Priced.closing is

pub proof_with-requires-in-Priced-clause-root : goal.proof_with-requires-in-Priced-clause-root
proof_with-requires-in-Priced-clause-root g c =
    let kinds = c.args.kinds.now in
    let prices = c.in-Priced.prices.items in
    let risen = subst (λ (ks : List Network). Rises ks c.in_ok-prices.field-0) c.new.ensures c.in_ok-prices.ensures in
    let is = subst (Rises kinds) c.in-Priced.is risen in
    let n : ℕ = length c.customers.result.now in
    let same = kind_is kinds 0 c.index-kinds-0.result (omega (arith, c.requires.fleet.are.some)) c.index-kinds-0.is in
    let count : n ≡ length (customer_nodes (first_of kinds)) = ap length c.customers.ensures.value ∙ ap (λ (g : Network). length (customer_nodes g)) (sym same) in
    let columns = c.in_ok-columns-in-Priced.columns in
    let few_columns : length columns.items ≤ most_items = (let a = columns.ok.0 in let b = columns.small in omega (arith, a, b)) in
    let long = ap (λ (rs : List MixedRoute). length rs) c.in_ok-columns-in-Priced.ensures ∙ length-map c.args.routes.now (λ (r : Searched). r.route) in
    let few : length c.args.routes.now ≤ most_items = omega (arith, few_columns, long) in
    rising_root kinds c.requires.fleet prices c.in-Priced.closing is c.args.routes.now c.args.basis.now c.requires.wide few n count
    c.from_vec.result (c.from_vec.ensures ∙ c.in_ok-columns-in-Priced.ensures) c.from_vec-in-Priced.result (c.from_vec-in-Priced.ensures ∙ c.in_ok-entries-in-Priced.ensures)

pub proof_with-requires-in-Priced-clause-asked : goal.proof_with-requires-in-Priced-clause-asked
proof_with-requires-in-Priced-clause-asked = grind (arith, common_steps)

pub proof_with-requires-in-Priced-clause-above : goal.proof_with-requires-in-Priced-clause-above
proof_with-requires-in-Priced-clause-above = grind (arith, common_steps)

pub proof_with-requires-clause-asked : goal.proof_with-requires-clause-asked
proof_with-requires-clause-asked = grind (arith, common_steps)

pub proof_with-requires-clause-closed : goal.proof_with-requires-clause-closed
proof_with-requires-clause-closed = grind (arith, common_steps)

pub proof_with-requires-in-Priced-clause-closed : goal.proof_with-requires-in-Priced-clause-closed
proof_with-requires-in-Priced-clause-closed = grind (arith, common_steps)
