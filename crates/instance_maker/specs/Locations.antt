-- Where the nodes of a made instance are.
use Rattle.std.specs.Prelude.{ℕ, ◌+◌, ◌*◌, List}
use Rattle.std.specs.Int.{abs_diff}
use Rattle.instance_maker.specs.declared.plane.Location.{Location}
use Rattle.instance_maker.specs.Generator.{drawn}
use Rattle.instance_maker.specs.Lists.{tabulate}

-- The location of a node: two draws for each node in order, its x and then its y.
abbrev pub location_of : ℕ → ℕ → Location
location_of seed node = record { x = drawn seed (2 * node + 1); y = drawn seed (2 * node + 2) }

-- the locations of the nodes in order
abbrev pub locations_of : ℕ → ℕ → List Location
locations_of seed nodes = tabulate (location_of seed) nodes

-- the Manhattan distance of two locations
abbrev pub distance_between : Location → Location → ℕ
distance_between p q = abs_diff p.x q.x + abs_diff p.y q.y
