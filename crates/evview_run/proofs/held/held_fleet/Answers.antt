use Rattle.evview_run.proofs.HeldLaws.{few_are_held, spelled_is_held}
use Rattle.evview_run.proofs.held.held_fleet.Goals as goal

pub returns-in-Ok-clause-ok : goal.returns-in-Ok-clause-ok
returns-in-Ok-clause-ok c = spelled_is_held c.args.start c.args.bytes.now c.in-Ok.plan c.in-Ok.ensures.ok

pub returns-in-Ok-clause-few : goal.returns-in-Ok-clause-few
returns-in-Ok-clause-few c = few_are_held c.in-Ok.plan c.in-Ok.ensures.ok.fits
