use Rattle.std.proofs.Common.{◌+◌, ◌*◌, ◌<◌, ◌⊎◌, ℕ, List, inl, inr, arith}
use Rattle.ev_model.specs.Network.{Network}
use Rattle.level_table.specs.Places.{entry_count, index_of, IsHome, IsPlace}
use Rattle.level_table.specs.declared.place.Place.{Place}
use Rattle.level_table.proofs.Grid.{home-below, place-below}
use Rattle.level_table.proofs.trip.Trip.index_of.Goals as goal

below : (g : Network) (route : List ℕ) (place : Place) → IsPlace g route place ⊎ IsHome g route place → index_of g place < entry_count g route + (g.capacity + 1) * 2
below g route place is = elim is [
  | inl on_way ↦ let less = place-below g route place on_way in omega (arith, less)
  | inr home ↦ home-below g route place home
]

pub overflow_mul-cell : goal.overflow_mul-cell
overflow_mul-cell c =
    let less = below c.args.self.now.network c.args.self.now.route c.args.place c.requires in
    rw (c.slots.ensures.value, c.levels.ensures.value) (omega (arith, less))

pub overflow_add-cell : goal.overflow_add-cell
overflow_add-cell c =
    let less = below c.args.self.now.network c.args.self.now.route c.args.place c.requires in
    rw (c.slots.ensures.value, c.levels.ensures.value) (omega (arith, less))

pub returns-clause-within : goal.returns-clause-within
returns-clause-within c =
    let less = below c.args.self.now.network c.args.self.now.route c.args.place c.requires in
    rw (c.slots.ensures.value, c.levels.ensures.value) (omega (arith, less, c.entry.ensures))

pub overflow_mul-result : goal.overflow_mul-result
overflow_mul-result c =
    let less = below c.args.self.now.network c.args.self.now.route c.args.place c.requires in
    rw (c.slots.ensures.value, c.levels.ensures.value) (omega (arith, less))

pub overflow_add-result : goal.overflow_add-result
overflow_add-result c =
    let less = below c.args.self.now.network c.args.self.now.route c.args.place c.requires in
    rw (c.slots.ensures.value, c.levels.ensures.value) (omega (arith, less, c.entry.ensures))
