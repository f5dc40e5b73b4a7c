use Rattle.evroute_run.proofs.Task.{ended_of}
use Rattle.evroute_run.proofs.trip.trip_of.Goals as goal

pub returns-in-Err-clause-ended : goal.returns-in-Err-clause-ended
returns-in-Err-clause-ended c = ended_of c.args.options c.args.word.now c.args.bytes.now c.in-Err.ended c.in-Err.ensures.ended
