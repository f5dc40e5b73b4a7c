use Rattle.std.proofs.Common.{◌∙◌, ap, sym, subst, arith, inl, inr}
use Rattle.std.proofs.lemmas.Grind.{common_steps}
use Rattle.std.proofs.lemmas.Bool.{cases_eq}
use Rattle.ev_model.specs.Network.{node_count}
use Rattle.closed_lists.specs.Questions.{Question}
use Rattle.closed_lists.specs.Tellings.{IsUncovered, TellsStep}
use Rattle.closed_lists.proofs.LabelSteps.{is_known}
use Rattle.closed_lists.proofs.question.Question.uncovered_node.Goals as goal

pub loop-node-preserved : goal.loop-node-preserved
loop-node-preserved c x high =
    let here : IsUncovered c.args.self.now c.args.label.now c.loop-node.node → ⊥ = subst (λ b. TellsStep c.args.self.now c.args.label.now c.loop-node.node b) c.if-not-branch.false c.in_ok-step_is_covered.ensures in
    elim (cases_eq x c.loop-node.node) [
      | inl same ↦ subst (λ k. IsUncovered c.args.self.now c.args.label.now k → ⊥) (sym same) here
      | inr other ↦ c.loop-node.invariant x (omega (arith, high, other))
    ]

pub returns : goal.returns
returns c x missed =
    let known = is_known c.args.self.now c.args.label.now x missed in
    let nodes = c.nodes-node-end.ensures.value ∙ ap (λ (q : Question). node_count q.network) c.self.view_is in
    c.loop-node.invariant x (omega (arith, known, nodes, c.loop-node-test.false)) missed

pub returns-then-not-branch : goal.returns-then-not-branch
returns-then-not-branch = grind (arith, common_steps)

pub step_is_covered-requires-clause-known : goal.step_is_covered-requires-clause-known
step_is_covered-requires-clause-known = grind (arith, common_steps)
