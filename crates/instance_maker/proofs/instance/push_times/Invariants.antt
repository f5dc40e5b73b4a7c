use Rattle.std.proofs.Common.{◌≡◌, ◌++◌, map, replicate}
use Rattle.serde_json.specs.View.{view}
use Rattle.instance_maker.specs.MadeInstance.{whole}
use Rattle.instance_maker.proofs.instance.push_times.Given as goal

abbrev pub invariant-loop : goal.invariant-loop
invariant-loop l = map view l.items.items ≡ map view l.initial.items.items ++ replicate l.counter (whole l.number)
