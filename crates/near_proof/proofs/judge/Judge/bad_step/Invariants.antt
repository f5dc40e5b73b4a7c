use Rattle.near_proof.proofs.Told.{CoveredBefore}
use Rattle.near_proof.specs.Judging.{judged}
use Rattle.near_proof.proofs.judge.Judge.bad_step.Given as goal

abbrev pub invariant-loop-number : goal.invariant-loop-number
invariant-loop-number l = CoveredBefore l.self.inst.now (judged l.self) l.number
