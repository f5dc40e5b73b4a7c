use Rattle.std.proofs.Common.{◌^◌}
use Rattle.std.proofs.lemmas.Result.{IfOk-weaker}
use Rattle.column_pool.specs.Bounds.{IsNodeBound}
use Rattle.column_pool.specs.TooWide.{IsNodeBoundAt}
use Rattle.column_pool.proofs.WideBases.{bound_is}
use Rattle.column_pool.proofs.node.bound_node.Goals as goal

pub returns-clause-bound : goal.returns-clause-bound
returns-clause-bound c =
    let g = c.args.inst.now in
    let p = c.args.pairs.now in
    IfOk-weaker c.bound_by_loop.result (IsNodeBoundAt (2 ^ 40) (2 ^ 84) g p) (IsNodeBound g p) (bound_is g p) c.bound_by_loop.ensures.bound
