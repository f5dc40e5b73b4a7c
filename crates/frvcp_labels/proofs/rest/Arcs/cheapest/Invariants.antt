use Rattle.std.proofs.Common.{ℕ, ◌+◌, ◌<◌, ◌≤◌, get_or}
use Rattle.std.specs.Prelude.{slice_index}
use Rattle.frvcp_labels.specs.Rest.{step_cost}
use Rattle.frvcp_labels.proofs.rest.Arcs.cheapest.Given as goal

abbrev pub invariant-loop-station : goal.invariant-loop-station
invariant-loop-station l = record {
  most : l.cheapest ≤ l.most;
  below : (n : ℕ) → n < l.station-index → l.cheapest ≤ step_cost l.self.inst.now l.self.rate l.from (get_or l.self.stations.now n 0) + slice_index l.least (l.base + get_or l.self.stations.now n 0);
}
