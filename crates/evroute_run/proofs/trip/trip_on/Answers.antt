use Rattle.evroute_run.proofs.Task.{has_start, is_task}
use Rattle.evroute_run.proofs.trip.trip_on.Goals as goal

pub returns-in-Ok-route-clause-task : goal.returns-in-Ok-route-clause-task
returns-in-Ok-route-clause-task c = λ bytes network.
    is_task c.args.options c.args.word.now bytes c.args.inst c.in-Ok-route.route.items c.in-Ok.start network c.in-Ok.ensures.ok c.in-Ok.ensures.within c.in-Ok-route.ensures.spelled c.in-Ok-route.ensures.is_route c.in-Ok-route.ensures.short

pub returns-in-Err-route-clause-ended : goal.returns-in-Err-route-clause-ended
returns-in-Err-route-clause-ended c = λ bytes network.
    c.in-Err-route.ensures.ended c.args.options bytes (has_start c.args.options bytes c.args.inst c.in-Ok.start network c.in-Ok.ensures.ok c.in-Ok.ensures.within)

pub returns-in-Err-clause-ended : goal.returns-in-Err-clause-ended
returns-in-Err-clause-ended c = λ bytes network. c.in-Err.ensures.ended c.args.word.now bytes network
