use Rattle.std.proofs.Common.{ℕ, ◌<◌}
use Rattle.near_proof.specs.Judging.{AreStepsCovered, judged}
use Rattle.near_proof.proofs.judge.Judge.uncovered_node.Given as goal

abbrev pub invariant-loop-node : goal.invariant-loop-node
invariant-loop-node l = (x : ℕ) → x < l.node → AreStepsCovered l.self.inst.now (judged l.self) l.label x
