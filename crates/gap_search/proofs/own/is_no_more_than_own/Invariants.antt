use Rattle.std.proofs.Common.{drop}
use Rattle.gap_search.specs.Gap.{IsNoMoreThanOwn}
use Rattle.gap_search.proofs.own.is_no_more_than_own.Given as goal

abbrev pub invariant-loop-node : goal.invariant-loop-node
invariant-loop-node l =
    IsNoMoreThanOwn l.inst (drop l.node-index l.customers) l.left → IsNoMoreThanOwn l.inst l.customers l.initial.left
