use Rattle.gap_search.specs.After.{IsPlanAfter}
use Rattle.gap_search.proofs.plans.with_dives.Given as goal

abbrev pub invariant-loop-dive : goal.invariant-loop-dive
invariant-loop-dive g l = IsPlanAfter l.inst l.initial.held l.held
