use Rattle.std.specs.Prelude.{IfOk}
use Rattle.label_steps.specs.Arrivals.{ArrivesAs}
use Rattle.label_steps.proofs.Arrivals.{arrives_as, is_within}
use Rattle.label_steps.proofs.arriving.arrival.Goals as goal

the_arrival : (c : goal.After-moved) → IfOk c.moved.result (ArrivesAs c.args.inst.now c.args.value.now c.args.from c.args.to c.args.least)
the_arrival c =
    arrives_as c.args.inst.now c.args.value.now c.args.from c.args.to c.args.least c.energy-energy.result c.drive_time-time.result c.scaled_limit.result c.moved.result c.energy-energy.ensures.value c.drive_time-time.ensures.value c.scaled_limit.ensures.value c.moved.ensures

pub returns-clause-left : goal.returns-clause-left
returns-clause-left c = the_arrival c

pub returns-clause-within : goal.returns-clause-within
returns-clause-within c =
    is_within c.args.inst.now c.args.value.now c.args.from c.args.to c.args.least c.moved.result c.requires.levels (the_arrival c)
