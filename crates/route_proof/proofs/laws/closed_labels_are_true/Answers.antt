use Rattle.route_proof.proofs.HomeBounds.{accepted_is_true}
use Rattle.route_proof.proofs.laws.closed_labels_are_true.Goals as goal

pub returns : goal.returns
returns c = accepted_is_true
