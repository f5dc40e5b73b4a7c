use Rattle.std.proofs.Common.{ℕ, ◌<◌}
use Rattle.ev_model.specs.Network.{IsNetwork}
use Rattle.mixed_model.specs.Kinds.{network_of}
use Rattle.mixed_fleet.proofs.planning.know_networks.Given as goal

abbrev pub invariant-loop-inst : goal.invariant-loop-inst
invariant-loop-inst l = (k : ℕ) → k < l.inst-index → IsNetwork (network_of l.kinds k)
