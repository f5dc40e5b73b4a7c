use Rattle.std.proofs.Common.{◌≡◌, ◌+◌, map}
use Rattle.serde_json.specs.View.{view}
use Rattle.instance_maker.specs.Lists.{tabulate}
use Rattle.instance_maker.specs.MadeInstance.{station_value}
use Rattle.instance_maker.proofs.instance.station_entries.Given as goal

abbrev pub invariant-loop-number : goal.invariant-loop-number
invariant-loop-number l = map view l.items.items ≡ tabulate (λ station. station_value station (1 + l.customers + station)) l.number
