use Rattle.mixed_model.proofs.KindNumbers.{AgreeTo}
use Rattle.mixed_model.proofs.agreement.kinds_agree.Given as goal

abbrev pub invariant-loop-kind : goal.invariant-loop-kind
invariant-loop-kind l = AgreeTo l.kinds l.kind
