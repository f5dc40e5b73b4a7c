use Rattle.std.proofs.Common.{◌≡◌, ℕ, ◌+◌, ◌<◌, ◌≤◌, length}
use Rattle.std.specs.Prelude.{slice_index}
use Rattle.ev_model.specs.Network.{node_count}
use Rattle.frvcp_labels.specs.Rest.{IsDirect}
use Rattle.frvcp_labels.proofs.rest.Arcs.go_on_directly.Given as goal

abbrev pub invariant-loop-station : goal.invariant-loop-station
invariant-loop-station l = record {
  count : length l.least ≡ length l.initial.least;
  before : (i : ℕ) → i < l.base → slice_index l.least i ≡ slice_index l.initial.least i;
  stays : (i : ℕ) → l.base + node_count l.self.inst.now ≤ i → slice_index l.least i ≡ slice_index l.initial.least i;
  direct : IsDirect l.self.inst.now l.self.rate l.least l.base l.next l.after;
}
