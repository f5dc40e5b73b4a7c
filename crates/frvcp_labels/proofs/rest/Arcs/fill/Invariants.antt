use Rattle.std.proofs.Common.{◌≡◌, ℕ, ◌*◌, ◌<◌, length}
use Rattle.std.specs.Prelude.{slice_index}
use Rattle.ev_model.specs.Network.{node_count}
use Rattle.frvcp_labels.specs.Rest.{AreLayers}
use Rattle.frvcp_labels.proofs.rest.Arcs.fill.Given as goal

abbrev pub invariant-loop-passed : goal.invariant-loop-passed
invariant-loop-passed l = record {
  count : length l.least ≡ length l.initial.least;
  empty : (i : ℕ) → i < l.passed * node_count l.self.inst.now → slice_index l.least i ≡ 0;
  layers : AreLayers l.self.inst.now l.route l.self.rate l.least l.passed;
}
