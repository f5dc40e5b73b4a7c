use Rattle.ev_outside.specs.Sure.{sure_files}
use Rattle.evroute_run.proofs.NeverFails.{runs_surely}
use Rattle.evroute_run.proofs.sure.run_surely.Goals as goal

pub returns-clause-sure : goal.returns-clause-sure
returns-clause-sure c =
    runs_surely c.args.words.now (sure_files c.args.shelf.now) (sure_files c.run.new.shelf) c.args.out.now c.run.new.out c.run.result c.run.ensures.usage c.run.ensures.job

pub returns-clause-runs : goal.returns-clause-runs
returns-clause-runs c = (_, c.run.ensures)
