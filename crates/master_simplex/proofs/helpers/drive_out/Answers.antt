use Rattle.std.proofs.Common.{rules}
use Rattle.master_simplex.proofs.Tables.{then_reached}
use Rattle.master_simplex.proofs.helpers.drive_out.Goals as goal

pub returns-in_err-drive-clause-reached : goal.returns-in_err-drive-clause-reached
returns-in_err-drive-clause-reached c = then_reached c.args.t.now c.loop-row.t c.drive.new.t c.loop-row.invariant.reached c.drive.ensures.reached

pub loop-row-preserved : goal.loop-row-preserved
loop-row-preserved c = record {
  driven = search rules;
  reached = then_reached c.args.t.now c.loop-row.t c.drive.new.t c.loop-row.invariant.reached c.drive.ensures.reached;
}
