use Rattle.near_tree.specs.Ranges.{SectionLabelFits}
use Rattle.near_tree.specs.Zero.{HasKeptMemory}
use Rattle.near_tree.proofs.ZeroTrees.{all_more, labels_more}
use Rattle.near_tree.proofs.zero.full_labels.Goals as goal

pub loop-node-preserved : goal.loop-node-preserved
loop-node-preserved c =
    let g = c.args.inst.now in
    let before = c.loop-node.labels.items in
    let after = c.push.new.self.items in
    let l = c.full_label.result in
    let made = c.in_ok-push.ensures.items in
    record {
      labels = labels_more g before after l c.loop-node.node made c.loop-node.invariant.labels c.full_label.ensures.label;
      fit = all_more (SectionLabelFits g) before after l made c.loop-node.invariant.fit c.full_label.ensures.fits;
      kept = all_more HasKeptMemory before after l made c.loop-node.invariant.kept c.full_label.ensures.kept;
    }
