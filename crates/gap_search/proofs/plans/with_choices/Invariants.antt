use Rattle.gap_search.specs.After.{IsPlanAfter}
use Rattle.gap_search.proofs.plans.with_choices.Given as goal

abbrev pub invariant-loop : goal.invariant-loop
invariant-loop g l = IsPlanAfter l.inst l.initial.held l.held
