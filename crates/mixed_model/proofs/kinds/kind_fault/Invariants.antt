use Rattle.std.proofs.Common.{ℕ, ◌<◌}
use Rattle.ev_model.specs.Network.{IsNetwork}
use Rattle.mixed_model.specs.Kinds.{network_of}
use Rattle.mixed_model.specs.Tellings.{AreClosedBefore}
use Rattle.mixed_model.proofs.kinds.kind_fault.Given as goal

abbrev pub invariant-loop-kind : goal.invariant-loop-kind
invariant-loop-kind l = record {
  networks : (m : ℕ) → m < l.kind → IsNetwork (network_of l.kinds m);
  closed : AreClosedBefore l.kinds l.p l.kind;
}
