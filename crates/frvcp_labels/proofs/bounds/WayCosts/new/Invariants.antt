use Rattle.std.proofs.Common.{◌≡◌, ◌<◌, [], ℕ, get_or, length}
use Rattle.frvcp_labels.specs.Bounds.{IsLayer, lists_in}
use Rattle.frvcp_labels.proofs.bounds.WayCosts.new.Given as goal

abbrev pub invariant-loop-to : goal.invariant-loop-to
invariant-loop-to l = record {
  count : length l.layers.items ≡ l.to;
  layers_are : (to : ℕ) → to < l.to → IsLayer l.inst l.rate to (get_or (lists_in l.layers.items) to []);
}
