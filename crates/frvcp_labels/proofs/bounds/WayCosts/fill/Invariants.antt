use Rattle.std.proofs.Common.{◌≡◌, length}
use Rattle.frvcp_labels.specs.Rest.{AreLayers}
use Rattle.frvcp_labels.proofs.bounds.WayCosts.fill.Given as goal

abbrev pub invariant-loop-passed : goal.invariant-loop-passed
invariant-loop-passed l = record {
  count : length l.least ≡ length l.initial.least;
  layers : AreLayers l.inst l.route l.self.rate l.least l.passed;
}
