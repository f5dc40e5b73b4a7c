-- The stops along the moves of a vehicle.
use Rattle.std.specs.Prelude.{ℕ, ◌+◌, List, [], ◌∷◌, ◌++◌, nat_lt, false}
use Rattle.ev_model.specs.Network.{Network}
use Rattle.ev_model.specs.declared.Stop.{Stop}
use Rattle.level_table.specs.Moves.{node_of}
use Rattle.level_table.specs.declared.moves.Move.{Move}
use Rattle.level_table.specs.declared.moves.Move.TheVariants.{Charge, Drive, Unplug}
use Rattle.level_table.specs.declared.place.Place.{Place}

-- the depot, left with this level
abbrev pub start_place : ℕ → Place
start_place level = record { passed = 0; slot = 0; level = level; plugged = false }

-- the stop where the vehicle is after a move to a place: the same, with one unit more if it charges, or the next
abbrev pub stop_after : Network → List ℕ → Move → Place → Stop → Stop
stop_after g route Charge to stop = record stop { added = stop.added + 1 }
stop_after g route Unplug to stop = stop
stop_after g route (Drive slot) to stop =
    record { node = node_of g route to; added = 0; via = nat_lt 0 to.slot }

-- the stops that the vehicle has left after a move
abbrev pub stops_after : Move → Stop → List Stop → List Stop
stops_after Charge stop stops = stops
stops_after Unplug stop stops = stops
stops_after (Drive slot) stop stops = stops ++ stop ∷ []
