use Rattle.std.proofs.Common.{◌-◌, ◌^◌, Some}
use Rattle.frvcp_labels.specs.Charged.{AreCharged}
use Rattle.frvcp_labels.specs.Full.{AreFull}
use Rattle.frvcp_labels.specs.Search.{IsSoundPool, IsSpread, settled_count}
use Rattle.route_steps.specs.Ways.{begin}
use Rattle.frvcp_labels.proofs.trip.Trip.first_home.Given as goal

abbrev pub invariant-loop-i : goal.invariant-loop-i
invariant-loop-i l = record {
  pool : IsSoundPool l.self l.pool;
  full : AreFull l.self l.pool.labels l.full;
  charged : AreCharged l.self l.pool.labels;
  spread : IsSpread l.self l.pool.labels (Some l.bar) (begin l.self.start);
}

abbrev pub decreases-loop-i : goal.decreases-loop-i
decreases-loop-i l = 2 ^ 63 - settled_count l.pool.labels
