use Rattle.std.proofs.Common.{◌≡◌, ◌≤◌, ◌∷◌, ◌++◌, drop}
use Rattle.charge_curve.specs.Points.{ArePoints}
use Rattle.piece_fn.specs.Cuts.{AreAbove, moved, tail_to}
use Rattle.piece_fn.proofs.charging.push_moved.Given as goal

abbrev pub invariant-loop-index : goal.invariant-loop-index
invariant-loop-index l = record {
  same : l.points.items ++ tail_to l.limit l.last (moved l.by.down l.by.zero l.by.base (drop l.index l.rest)) ≡ l.initial.points.items ++ tail_to l.limit l.fn.first (moved l.by.down l.by.zero l.by.base (drop 1 l.rest));
  points : ArePoints (l.last ∷ moved l.by.down l.by.zero l.by.base (drop l.index l.rest));
  above : AreAbove l.by.down l.by.zero (drop l.index l.rest);
  within : l.last.1 ≤ l.limit;
}
