use Rattle.std.proofs.Common.{◌≡◌, drop}
use Rattle.evview_run.specs.ViewAnswer.{first_walk}
use Rattle.evview_run.proofs.judging.first_walk.Given as goal

abbrev pub invariant-loop-route : goal.invariant-loop-route
invariant-loop-route l = first_walk l.inst l.start l.route (drop l.route l.plans) ≡ first_walk l.inst l.start 0 l.plans
