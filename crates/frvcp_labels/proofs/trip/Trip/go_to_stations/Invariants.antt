use Rattle.frvcp_labels.specs.Charged.{AreCharged}
use Rattle.frvcp_labels.specs.Full.{AreFull}
use Rattle.frvcp_labels.specs.Search.{IsGrown, IsSoundPool}
use Rattle.frvcp_labels.proofs.StationSteps.{SpreadsBelow}
use Rattle.frvcp_labels.proofs.trip.Trip.go_to_stations.Given as goal

abbrev pub invariant-loop-station : goal.invariant-loop-station
invariant-loop-station l = record {
  pool : IsSoundPool l.self l.pool;
  full : AreFull l.self l.pool.labels l.full;
  charged : AreCharged l.self l.pool.labels;
  grown : IsGrown l.fn.pool.labels l.pool.labels;
  below : SpreadsBelow l.self l.fn.pool.labels l.pool.labels l.bar l.i l.passed l.station-index;
}
