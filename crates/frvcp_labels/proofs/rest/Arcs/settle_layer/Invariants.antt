use Rattle.std.proofs.Common.{◌≡◌, ◌+◌, false}
use Rattle.std.specs.Prelude.{if◌then◌else◌}
use Rattle.std.specs.List.{sum}
use Rattle.ev_model.specs.Network.{node_count}
use Rattle.frvcp_labels.specs.Rest.{IsLowered, IsSteady}
use Rattle.frvcp_labels.proofs.rest.Arcs.settle_layer.Given as goal

abbrev pub invariant-loop-is_lower : goal.invariant-loop-is_lower
invariant-loop-is_lower l = record {
  lowered : IsLowered (l.base + node_count l.self.inst.now) l.initial.least l.least;
  steady : l.is_lower ≡ false → IsSteady l.self.inst.now l.self.rate l.least l.base;
}

abbrev pub decreases-loop-is_lower : goal.decreases-loop-is_lower
decreases-loop-is_lower l = sum l.least + (if l.is_lower then 1 else 0)
