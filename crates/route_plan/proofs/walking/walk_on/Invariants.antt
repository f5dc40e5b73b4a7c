use Rattle.std.proofs.Common.{◌≡◌, ◌<◌, ◌≤◌, drop}
use Rattle.ev_model.specs.Network.{node_count}
use Rattle.route_plan.specs.Walking.{walk_on, walk_behind}
use Rattle.route_plan.proofs.walking.walk_on.Given as goal

-- what is left gives the answer for all
abbrev pub invariant-loop-at : goal.invariant-loop-at
invariant-loop-at l = record {
  from : l.from < node_count l.inst;
  some : 1 ≤ l.at;
  told : walk_behind l.inst l.from l.reached.last l.reached.time l.at (drop l.at l.stops) ≡ walk_on l.inst l.start l.stops;
}
