use Rattle.std.proofs.Common.{arith}
use Rattle.std.proofs.lemmas.Grind.{common_steps}
use Rattle.level_table.proofs.TableSizes.{few-steps}
use Rattle.level_table.proofs.trip.Trip.offer.Goals as goal

pub overflow_add-reach : goal.overflow_add-reach
overflow_add-reach c =
    let steps = few-steps c.args.self.now.network c.args.self.now.route c.args.entries.now c.index_of.result
    c.in-Some-entries.rest c.requires.table.trip c.requires.table c.in-Some-entries.is in
    omega (arith, steps)

pub returns-clause-least : goal.returns-clause-least
returns-clause-least = grind (arith, common_steps)

pub returns-then-time-scaled_limit-clause-least : goal.returns-then-time-scaled_limit-clause-least
returns-then-time-scaled_limit-clause-least = grind (arith, common_steps)

pub returns-in_default-entries-clause-least : goal.returns-in_default-entries-clause-least
returns-in_default-entries-clause-least = grind (arith, common_steps)

pub overflow_add-time : goal.overflow_add-time
overflow_add-time = grind (arith, common_steps)

pub returns-clause-some : goal.returns-clause-some
returns-clause-some = grind (arith, common_steps)
