use Rattle.std.proofs.Common.{take}
use Rattle.master_table.specs.RowView.{limits_of}
use Rattle.master_table.specs.Leaving.{IsHelperTable}
use Rattle.master_table.proofs.starting.helper_table.Given as goal

abbrev pub invariant-loop-route : goal.invariant-loop-route
invariant-loop-route l = IsHelperTable l.n (limits_of l.fn.caps) (take l.route-index l.routes) l.table
