use Rattle.std.proofs.Common.{◌≡◌, map, take}
use Rattle.serde_json.specs.View.{view}
use Rattle.instance_maker.specs.MadeInstance.{whole}
use Rattle.instance_maker.specs.Locations.{distance_between}
use Rattle.instance_maker.proofs.instance.distances_from.Given as goal

abbrev pub invariant-loop-to : goal.invariant-loop-to
invariant-loop-to l = map view l.items.items ≡ map (λ to. whole (distance_between l.from to)) (take l.to-index l.locations)
