use Rattle.std.proofs.Common.{◌≤◌, ℕ, ap, sym, subst, arith}
use Rattle.std.specs.List.{All}
use Rattle.dominance.specs.LevelTimes.{IsLevel}
use Rattle.label_steps.specs.Arrivals.{IsWithin}
use Rattle.piece_fn.specs.PieceFn.{level_times}
use Rattle.std.proofs.lemmas.Grind.{common_steps}
use Rattle.ev_model.specs.Network.{Network, node_count}
use Rattle.near_proof.specs.Ranges.{NearLabelFits}
use Rattle.near_proof.specs.declared.proof.NearLabel.{NearLabel}
use Rattle.near_pricing.proofs.LabelRanges.{left_within, listed_placed, step_memory}
use Rattle.near_pricing.proofs.listing.list_step.Goals as goal

pub target_at-requires-clause-label : goal.target_at-requires-clause-label
target_at-requires-clause-label c =
    listed_placed c.args.pricing.now.network c.index-from.result.now (subst (λ (l : NearLabel). NearLabelFits c.args.pricing.now.network l) (sym c.index-from.ensures) (c.requires.fit c.args.number c.index-from.result.now (let few = c.if-number-count.false in omega (arith, few, c.len-count.ensures))))

pub values_at-requires-clause-levels : goal.values_at-requires-clause-levels
values_at-requires-clause-levels c =
    let placed = listed_placed c.args.pricing.now.network c.index-from.result.now (subst (λ (l : NearLabel). NearLabelFits c.args.pricing.now.network l) (sym c.index-from.ensures) (c.requires.fit c.args.number c.index-from.result.now (let few = c.if-number-count.false in omega (arith, few, c.len-count.ensures)))) in
    subst (λ (g : Network). (level : ℕ) → IsLevel (level_times c.index-from.result.now.value) level → level ≤ g.capacity) (sym c.instance-inst.ensures.same) placed.levels

pub list_values-requires-clause-memory : goal.list_values-requires-clause-memory
list_values-requires-clause-memory c =
    let fits : NearLabelFits c.args.pricing.now.network c.index-from.result.now = (subst (λ (l : NearLabel). NearLabelFits c.args.pricing.now.network l) (sym c.index-from.ensures) (c.requires.fit c.args.number c.index-from.result.now (let few = c.if-number-count.false in omega (arith, few, c.len-count.ensures)))) in
    step_memory c.args.pricing.now c.index-from.result.now c.args.node c.in-Some.target (let low = c.if-node-nodes.false in let nodes = c.nodes.ensures.value in let same = ap (λ (g : Network). node_count g) c.instance.ensures.same in omega (arith, low, nodes, same)) fits.memory c.in-Some.ensures.leads

pub list_values-requires-clause-values : goal.list_values-requires-clause-values
list_values-requires-clause-values c =
    let within = left_within c.instance-inst.result.now c.index-from.result.now.value c.index-from.result.now.node c.args.node c.in_ok-values.values.items c.in_ok-values.ensures.left in
    subst (λ (g : Network). All (IsWithin g) c.in_ok-values.values.items) c.instance-inst.ensures.same within

pub values_at-requires-clause-node : goal.values_at-requires-clause-node
values_at-requires-clause-node = grind (arith, common_steps)

pub list_values-requires-clause-node : goal.list_values-requires-clause-node
list_values-requires-clause-node = grind (arith, common_steps)

pub target_at-requires-clause-node : goal.target_at-requires-clause-node
target_at-requires-clause-node = grind (arith, common_steps)
