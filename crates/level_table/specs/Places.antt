-- Places on the way along a route, and the entries of the table that stand for them.
use Rattle.std.specs.Prelude.{◌≡◌, ℕ, ◌+◌, ◌-◌, ◌*◌, ◌/◌, ◌%◌, ◌<◌, ◌≤◌, List, length, nat_eq, slice_index, if◌then◌else◌}
use Rattle.ev_model.specs.Network.{IsNetwork, Network}
use Rattle.ev_model.specs.Route.{IsRoute}
use Rattle.level_table.specs.Stations.{stations}
use Rattle.level_table.specs.Answer.{cell_count, most_cells}
use Rattle.level_table.specs.Entries.{entry_in_cell}
use Rattle.level_table.specs.declared.place.Place.{Place}

-- a route with a table that is small enough
pub record IsTrip (g : Network) (route : List ℕ) : Type 0 where
  pub network : IsNetwork g
  pub is_route : IsRoute g route
  pub small : cell_count g route ≤ most_cells

-- the node of a slot: slot 0 is the node of the route that was served last, slot j + 1 the station number j
abbrev pub node_at : Network → List ℕ → ℕ → ℕ → ℕ
node_at g route passed slot =
    if nat_eq slot 0 then slice_index route passed else slice_index (stations g) (slot - 1)

-- a place on the way
pub record IsPlace (g : Network) (route : List ℕ) (place : Place) : Type 0 where
  pub passed : place.passed < length route - 1
  pub slot : place.slot ≤ length (stations g)
  pub level : place.level ≤ g.capacity

-- a place at the end of the route, with the level that is wanted at home
pub record IsHome (g : Network) (route : List ℕ) (place : Place) : Type 0 where
  pub passed : place.passed ≡ length route - 1
  pub slot : place.slot ≡ 0
  pub level : place.level ≤ g.capacity
  pub enough : g.home_level ≤ place.level

-- the entries of the table before the end of the route: two for each cell, since the vehicle is plugged in or isn't
abbrev pub entry_count : Network → List ℕ → ℕ
entry_count g route = cell_count g route * 2

-- the number of the cell of a place; those for the end of the route come last
abbrev pub cell_of : Network → Place → ℕ
cell_of g place =
    (place.passed * (length (stations g) + 1) + place.slot) * (g.capacity + 1) + place.level

-- the number of the entry that stands for a place
abbrev pub index_of : Network → Place → ℕ
index_of g place = cell_of g place * 2 + entry_in_cell place.plugged

-- the place that an entry stands for
abbrev pub place_of : Network → ℕ → Place
place_of g index = record {
  passed = index / 2 / (g.capacity + 1) / (length (stations g) + 1);
  slot = index / 2 / (g.capacity + 1) % (length (stations g) + 1);
  level = index / 2 % (g.capacity + 1);
  plugged = nat_eq (index % 2) 0;
}
