use Rattle.std.proofs.Common.{sym, subst, arith, inl, inr}
use Rattle.std.proofs.lemmas.Bool.{cases_eq, cases_lt}
use Rattle.near_tree.specs.Judging.{AreStepsCovered, TellsStep}
use Rattle.near_tree.specs.Preorder.{leaf_label}
use Rattle.near_tree.specs.Sites.{leaf_of}
use Rattle.near_tree.proofs.LabelSteps.{not_uncovered, unknown}
use Rattle.near_tree.proofs.judge.Judge.uncovered_node.Goals as goal

pub returns-then-not-branch : goal.returns-then-not-branch
returns-then-not-branch c = (
  subst (λ b. TellsStep c.args.self.now.site.inst.now (leaf_of c.args.self.now.site) (leaf_label c.args.label.now) c.loop-node.node b) c.if-not-branch.true c.in_ok-step_is_covered.ensures,
  λ x low. not_uncovered c.args.self.now.site.inst.now (leaf_of c.args.self.now.site) (leaf_label c.args.label.now) x (c.loop-node.invariant x low),
)

pub loop-node-preserved : goal.loop-node-preserved
loop-node-preserved c x high =
    let here : AreStepsCovered c.args.self.now.site.inst.now (leaf_of c.args.self.now.site) (leaf_label c.args.label.now) c.loop-node.node = subst (λ b. TellsStep c.args.self.now.site.inst.now (leaf_of c.args.self.now.site) (leaf_label c.args.label.now) c.loop-node.node b) c.if-not-branch.false c.in_ok-step_is_covered.ensures in
    elim (cases_eq x c.loop-node.node) [
      | inl same ↦ subst (λ k. AreStepsCovered c.args.self.now.site.inst.now (leaf_of c.args.self.now.site) (leaf_label c.args.label.now) k) (sym same) here
      | inr other ↦ c.loop-node.invariant x (omega (arith, high, other))
    ]

pub returns : goal.returns
returns c x = elim (cases_lt x c.nodes-node-end.result) [
  | inl less ↦ c.loop-node.invariant x (omega (arith, less, c.loop-node-test.false))
  | inr more ↦ unknown c.args.self.now.site.inst.now (leaf_of c.args.self.now.site) (leaf_label c.args.label.now) x (omega (arith, more, c.nodes-node-end.ensures.value))
]
