use Rattle.std.proofs.Common.{◌≡◌, ℕ, ◌+◌, ◌<◌, true, false}
use Rattle.std.specs.List.{sum}
use Rattle.std.specs.Prelude.{slice_index}
use Rattle.ev_model.specs.Network.{node_count}
use Rattle.frvcp_labels.specs.Rest.{IsBelowSteps, IsLowered}
use Rattle.frvcp_labels.proofs.rest.Arcs.lower_layer.Given as goal

abbrev pub invariant-loop-node : goal.invariant-loop-node
invariant-loop-node l = record {
  lowered : IsLowered (l.base + node_count l.self.inst.now) l.initial.least l.least;
  less : l.is_lower ≡ true → sum l.least < sum l.initial.least;
  same : l.is_lower ≡ false → l.least ≡ l.initial.least;
  steady : l.is_lower ≡ false → (n : ℕ) → n < l.node → IsBelowSteps l.self.inst.now l.self.rate l.least l.base n (slice_index l.least (l.base + n));
}
