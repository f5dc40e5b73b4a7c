-- The label of a proof that a state is.
use Rattle.route_proof.specs.declared.proof.RouteLabel.{RouteLabel}
use Rattle.route_steps.specs.declared.state.State.{State}

abbrev pub label_of : State → RouteLabel
label_of s = record { passed = s.passed; node = s.node; value = s.value }
