use Rattle.std.proofs.Common.{ℕ, ◌<◌, get_or}
use Rattle.frvcp_labels.specs.Rest.{IsRateAt}
use Rattle.frvcp_labels.proofs.rest.fastest_rate.Given as goal

abbrev pub invariant-loop-station : goal.invariant-loop-station
invariant-loop-station l = (n : ℕ) → n < l.station-index → IsRateAt l.inst l.rate (get_or l.stations n 0)
