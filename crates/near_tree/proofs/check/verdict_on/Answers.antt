use Rattle.std.proofs.Common.{◌≡◌, ◌∙◌, ◌+◌, [], List, None, true, map, refl, sym, ap, subst, arith, Vec, Global}
use Rattle.near_tree.specs.Paths.{IsPath, trees_at}
use Rattle.near_tree.specs.Preorder.{node_of}
use Rattle.near_tree.specs.Ranges.{IsFitTree}
use Rattle.near_tree.specs.Walks.{IsWalkedTo}
use Rattle.near_tree.specs.declared.path.Turn.{Turn}
use Rattle.near_tree.specs.declared.proof.TreeNode.{TreeNode}
use Rattle.near_tree.specs.Paths.{GoesOn}
use Rattle.near_tree.specs.Sites.{leaf_at}
use Rattle.near_tree.specs.Verdicts.{IsVerdictOn, next_unbounded, TellsLeaf, verdict_of}
use Rattle.near_tree.specs.declared.check.LeafTold.TheVariants.{Closed, Fault}
use Rattle.near_tree.proofs.Judged.{fault_told, path_down, verdict_last, verdict_shown, walked_down, walked_on, WalksTo}
use Rattle.near_tree.proofs.Walks.{IsInner, walk_begins}
use Rattle.near_tree.proofs.check.verdict_on.Goals.{in-Split+in_ok-push-in-Split, in-Entries+in_ok-push-in-Entries, in-Leaf+in_ok-fault-in-Leaf+in-Closed+in_ok-go_on-in-Leaf+else-not-branch}
use Rattle.near_tree.proofs.check.verdict_on.Goals as goal

pub loop-node-init : goal.loop-node-init
loop-node-init c =
    let none : c.new-path.result.items ≡ [] = c.new-path.ensures.items in
    record {
      path = subst (λ (ts : List Turn). IsPath c.args.inst.now ts) (sym none) tt;
      walked = λ t fit. subst (λ (ts : List Turn). IsWalkedTo c.args.inst.now c.args.proof.now.bound t (trees_at ts) (map node_of c.as_slice-nodes.result.now) 0 None) (sym none) (walk_begins c.args.inst.now c.args.proof.now.bound c.as_slice-nodes.result.now t fit);
      few = omega arith;
    }

pub returns-in-Fault : goal.returns-in-Fault
returns-in-Fault c =
    let g = c.args.inst.now in
    let bound = c.args.proof.now.bound in
    let nodes = c.as_slice-nodes.result.now in
    let old = c.loop-node.path.items in
    let i = c.loop-node.node-index in
    let number = c.loop-node.leaf in
    let u = c.loop-node.unbounded in
    let walked = c.loop-node.invariant.walked in
    let n = c.node-item.result in
    let less = c.loop-node-test.true in
    let is = c.node-item.is in
    let told : TellsLeaf c.args.inst.now c.args.proof.now.bound (leaf_at c.loop-node.path.items c.in-Leaf.section) (Fault c.in-Fault.fault) = subst (λ (ts : List Turn). TellsLeaf c.args.inst.now c.args.proof.now.bound (leaf_at ts c.in-Leaf.section) (Fault c.in-Fault.fault)) c.as_slice.ensures.value
    (subst (λ f. TellsLeaf c.args.inst.now c.args.proof.now.bound (leaf_at c.as_slice.result.now c.in-Leaf.section) f) c.in-Fault.is c.in_ok-fault-in-Leaf.ensures) in
    verdict_shown g c.args.proof.now nodes c.verdict_by.result c.as_slice-nodes.ensures c.requires
    (λ t fit. subst (λ v. IsVerdictOn c.args.inst.now c.args.proof.now.bound t v) (sym c.verdict_by.ensures) (fault_told g bound nodes old i number u walked n less is c.in-Leaf.section c.in-Leaf.is c.in-Fault.fault told t fit))

pub returns-then-not-branch : goal.returns-then-not-branch
returns-then-not-branch c =
    let g = c.args.inst.now in
    let bound = c.args.proof.now.bound in
    let nodes = c.as_slice-nodes.result.now in
    let old = c.loop-node.path.items in
    let i = c.loop-node.node-index in
    let number = c.loop-node.leaf in
    let u = c.loop-node.unbounded in
    let walked = c.loop-node.invariant.walked in
    let n = c.node-item.result in
    let less = c.loop-node-test.true in
    let is = c.node-item.is in
    let told : TellsLeaf c.args.inst.now c.args.proof.now.bound (leaf_at c.loop-node.path.items c.in-Leaf.section) (Closed c.in-Closed.bounded) = subst (λ (ts : List Turn). TellsLeaf c.args.inst.now c.args.proof.now.bound (leaf_at ts c.in-Leaf.section) (Closed c.in-Closed.bounded)) c.as_slice.ensures.value
    (subst (λ f. TellsLeaf c.args.inst.now c.args.proof.now.bound (leaf_at c.as_slice.result.now c.in-Leaf.section) f) c.in-Closed.is c.in_ok-fault-in-Leaf.ensures) in
    let none = subst (λ b. GoesOn c.loop-node.path.items c.go_on.new.path.items b) c.if-not-branch.true c.in_ok-go_on-in-Leaf.ensures in
    let verdict : c.verdict_of.result ≡ verdict_of (next_unbounded c.loop-node.unbounded c.loop-node.leaf c.in-Closed.bounded) = c.verdict_of.ensures ∙ ap verdict_of c.next_unbounded-unbounded.ensures in
    verdict_shown g c.args.proof.now nodes c.verdict_of.result c.as_slice-nodes.ensures c.requires
    (λ t fit. subst (λ v. IsVerdictOn c.args.inst.now c.args.proof.now.bound t v) (sym verdict) (verdict_last g bound nodes old i number u walked n less is c.in-Leaf.section c.in-Leaf.is c.in-Closed.bounded told (number + 1) refl none t fit))

pub loop-node-preserved : goal.loop-node-preserved
loop-node-preserved c =
    let g = c.args.inst.now in
    let bound = c.args.proof.now.bound in
    let nodes = c.as_slice-nodes.result.now in
    let old = c.loop-node.path.items in
    let i = c.loop-node.node-index in
    let number = c.loop-node.leaf in
    let u = c.loop-node.unbounded in
    let walked = c.loop-node.invariant.walked in
    let n = c.node-item.result in
    let less = c.loop-node-test.true in
    let is = c.node-item.is in
    let some = c.requires.tree.0 in
    let fits : IsFitTree c.args.inst.now c.as_slice-nodes.result.now c.requires.tree.0 = subst (λ (ns : List TreeNode). IsFitTree c.args.inst.now ns c.requires.tree.0) (sym c.as_slice-nodes.ensures) c.requires.tree.1 in
    elim c.match-node.branch [
      | in-Split+in_ok-push-in-Split w ↦
          let inner : IsInner (node_of c.node-item.result) = subst (λ (m : TreeNode). IsInner (node_of m)) (sym w.in-Split.is) tt in
          let made = ap (λ (v : Vec Turn Global). v.items) w.path-is ∙ w.in_ok-push-in-Split.ensures.items in
          record {
            path = path_down g bound nodes old i number u walked n less is inner _ c.match-node.path.items made refl some fits c.loop-node.invariant.path;
            walked =
                subst (λ m. WalksTo c.args.inst.now c.args.proof.now.bound c.as_slice-nodes.result.now c.match-node.path.items (c.loop-node.node-index + 1) m c.match-node.unbounded) (sym w.leaf-is)
                (subst (λ m. WalksTo c.args.inst.now c.args.proof.now.bound c.as_slice-nodes.result.now c.match-node.path.items (c.loop-node.node-index + 1) c.loop-node.leaf m) (sym w.unbounded-is)
                (walked_down g bound nodes old i number u walked n less is inner _ c.match-node.path.items made refl refl));
            few = omega (arith, w.leaf-is, c.loop-node.invariant.few);
          }
      | in-Entries+in_ok-push-in-Entries w ↦
          let inner : IsInner (node_of c.node-item.result) = subst (λ (m : TreeNode). IsInner (node_of m)) (sym w.in-Entries.is) tt in
          let made = ap (λ (v : Vec Turn Global). v.items) w.path-is ∙ w.in_ok-push-in-Entries.ensures.items in
          record {
            path = path_down g bound nodes old i number u walked n less is inner _ c.match-node.path.items made refl some fits c.loop-node.invariant.path;
            walked =
                subst (λ m. WalksTo c.args.inst.now c.args.proof.now.bound c.as_slice-nodes.result.now c.match-node.path.items (c.loop-node.node-index + 1) m c.match-node.unbounded) (sym w.leaf-is)
                (subst (λ m. WalksTo c.args.inst.now c.args.proof.now.bound c.as_slice-nodes.result.now c.match-node.path.items (c.loop-node.node-index + 1) c.loop-node.leaf m) (sym w.unbounded-is)
                (walked_down g bound nodes old i number u walked n less is inner _ c.match-node.path.items made refl refl));
            few = omega (arith, w.leaf-is, c.loop-node.invariant.few);
          }
      | in-Leaf+in_ok-fault-in-Leaf+in-Closed+in_ok-go_on-in-Leaf+else-not-branch w ↦
          let told : TellsLeaf c.args.inst.now c.args.proof.now.bound (leaf_at c.loop-node.path.items w.in-Leaf.section) (Closed w.in-Closed.bounded) = subst (λ (ts : List Turn). TellsLeaf c.args.inst.now c.args.proof.now.bound (leaf_at ts w.in-Leaf.section) (Closed w.in-Closed.bounded)) w.as_slice.ensures.value
          (subst (λ f. TellsLeaf c.args.inst.now c.args.proof.now.bound (leaf_at w.as_slice.result.now w.in-Leaf.section) f) w.in-Closed.is w.in_ok-fault-in-Leaf.ensures) in
          let goes : GoesOn c.loop-node.path.items w.go_on.new.path.items true = subst (λ b. GoesOn c.loop-node.path.items w.go_on.new.path.items b) w.if-not-branch.false w.in_ok-go_on-in-Leaf.ensures in
          let unbounded : c.match-node.unbounded ≡ next_unbounded c.loop-node.unbounded c.loop-node.leaf w.in-Closed.bounded = w.unbounded-is ∙ w.next_unbounded-unbounded.ensures in
          let on : c.match-node.path.items ≡ w.go_on.new.path.items = ap (λ (v : Vec Turn Global). v.items) w.path-is in
          record {
            path = subst (λ (ts : List Turn). IsPath c.args.inst.now ts) (sym on) (goes.1 g c.loop-node.invariant.path);
            walked =
                subst (λ m. WalksTo c.args.inst.now c.args.proof.now.bound c.as_slice-nodes.result.now c.match-node.path.items (c.loop-node.node-index + 1) c.match-node.leaf m) (sym unbounded)
                (walked_on g bound nodes old i number u walked n less is w.in-Leaf.section w.in-Leaf.is w.in-Closed.bounded told c.match-node.leaf w.leaf-is c.match-node.path.items (goes.0 ∙ sym (ap trees_at on)));
            few = omega (arith, w.leaf-is, c.loop-node.invariant.few);
          }
    ]
