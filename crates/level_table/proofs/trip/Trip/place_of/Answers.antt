use Rattle.level_table.proofs.Grid.{entry-place}
use Rattle.level_table.proofs.trip.Trip.place_of.Goals as goal

pub returns-clause-place : goal.returns-clause-place
returns-clause-place c =
    rw (c.slots.ensures.value, c.slots-2.ensures.value, c.levels.ensures.value, c.levels-2.ensures.value)
    (entry-place c.args.self.now.network c.args.self.now.route c.args.index c.requires)
