use Rattle.near_tree.proofs.ZeroTrees.{section_shown}
use Rattle.near_tree.proofs.zero.zero_section.Goals as goal

pub returns : goal.returns
returns c =
    section_shown c.args.inst.now c.nodes-nodes.result c.from_vec.result c.in_ok-prices.prices.items c.from_vec-2.result c.in_ok-sets.sets.items c.new.result c.from_vec-3.result c.in_ok-labels.labels.items
    c.nodes-nodes.ensures.value c.nodes-nodes.ensures.few c.from_vec.ensures c.in_ok-prices.ensures.one c.in_ok-prices.ensures.none c.from_vec-2.ensures c.in_ok-sets.ensures.sets c.in_ok-sets.ensures.kept
    c.new.ensures c.from_vec-3.ensures c.in_ok-labels.ensures.labels c.in_ok-labels.ensures.fit c.in_ok-labels.ensures.kept
