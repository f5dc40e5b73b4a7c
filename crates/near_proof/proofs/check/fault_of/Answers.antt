use Rattle.std.proofs.Common.{subst, arith}
use Rattle.std.proofs.lemmas.Grind.{common_steps}
use Rattle.std.specs.Prelude.{IfOk}
use Rattle.near_proof.specs.Faults.{Judged, TellsFault}
use Rattle.near_proof.proofs.Verdicts.{judged_same}
use Rattle.near_proof.proofs.check.fault_of.Goals as goal

pub returns : goal.returns
returns c =
    subst (λ (j : Judged). IfOk c.first_fault.result (TellsFault c.args.inst.now j))
    (judged_same c.args.proof.now.weight _ c.args.proof.now.prices _ c.args.proof.now.sets _ c.args.proof.now.labels c.as_slice.ensures c.as_slice-2.ensures c.as_slice-3.ensures) c.first_fault.ensures

pub first_fault-requires-clause-labels : goal.first_fault-requires-clause-labels
first_fault-requires-clause-labels = grind (arith, common_steps)
