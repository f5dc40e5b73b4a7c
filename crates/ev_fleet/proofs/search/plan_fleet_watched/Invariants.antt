use Rattle.std.proofs.Common.{length}
use Rattle.branching.specs.Work.{work_left}
use Rattle.ev_fleet.specs.Answers.{shares_in}
use Rattle.ev_fleet.specs.Held.{cost_at}
use Rattle.ev_fleet.specs.Searching.{IsSearching, IsWithin, ShowsRoot}
use Rattle.ev_fleet.specs.Whole.{TakesShares}
use Rattle.ev_fleet.proofs.search.plan_fleet_watched.Given as goal

abbrev pub invariant-loop-budget : goal.invariant-loop-budget
invariant-loop-budget g l = record {
  searching : IsSearching l.inst l.search;
  root : ShowsRoot l.inst l.search.sections.items l.root;
  taken : TakesShares l.inst (shares_in l.root) (cost_at l.search.held);
  within : IsWithin l.budget (length l.search.sections.items);
}

abbrev pub decreases-loop-budget : goal.decreases-loop-budget
decreases-loop-budget g l = work_left l.search.tree.nodes
