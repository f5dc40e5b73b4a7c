use Rattle.near_proof.proofs.Told.{FreeBefore}
use Rattle.near_proof.specs.Judging.{judged}
use Rattle.near_proof.proofs.judge.Judge.bad_end.Given as goal

abbrev pub invariant-loop-number : goal.invariant-loop-number
invariant-loop-number l = FreeBefore l.self.inst.now (judged l.self) l.number
