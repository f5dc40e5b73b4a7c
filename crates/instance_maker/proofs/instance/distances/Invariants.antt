use Rattle.std.proofs.Common.{◌≡◌, map, take}
use Rattle.serde_json.specs.View.{view}
use Rattle.instance_maker.specs.MadeInstance.{array_of, whole}
use Rattle.instance_maker.specs.Locations.{distance_between}
use Rattle.instance_maker.proofs.instance.distances.Given as goal

abbrev pub invariant-loop-from : goal.invariant-loop-from
invariant-loop-from l = map view l.rows.items ≡ map (λ from. array_of (map (λ to. whole (distance_between from to)) l.locations)) (take l.from-index l.locations)
