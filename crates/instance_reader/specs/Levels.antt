-- The rule on levels: the reserve and the level at home are within a full battery.
use Rattle.std.specs.Prelude.{[], ◌∷◌, Option, nat_lt}
use Rattle.std.specs.Bool.{then_some}
use Rattle.instance_reader.specs.Contents.{Contents}
use Rattle.instance_reader.specs.Places.{at_key}
use Rattle.instance_reader.specs.Search.{first}
use Rattle.instance_reader.specs.declared.places.Key.TheVariants.{MinQ, HomeQ}
use Rattle.instance_reader.specs.declared.places.Place.{Place}

-- the first place of a level that is past a full battery
abbrev pub first_level_past_full : Contents → Option Place
first_level_past_full c = first
    (then_some (nat_lt c.capacity c.reserve) (at_key MinQ)
    ∷ then_some (nat_lt c.capacity c.home_level) (at_key HomeQ)
    ∷ [])
