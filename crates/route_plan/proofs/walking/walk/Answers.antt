use Rattle.std.proofs.Common.{Err, sym}
use Rattle.route_plan.specs.declared.walks.WalkFault.TheVariants.{Ends}
use Rattle.route_plan.proofs.Feasibly.{Tells, past_ends, tells, without_ends}
use Rattle.route_plan.proofs.walking.walk.Goals as goal

pub returns-then-not-both_ends-clause-infeasible : goal.returns-then-not-both_ends-clause-infeasible
returns-then-not-both_ends-clause-infeasible c =
    let answer = tells c.args.inst.now c.args.start c.args.stops.now (Err Ends) (without_ends c.args.inst.now c.args.start c.args.stops.now (sym c.if-not-both_ends.ensures)) in
    answer.infeasible

told : (c : goal.After-walk_on) → Tells c.args.inst.now c.args.start c.args.stops.now c.walk_on.result
told c = tells c.args.inst.now c.args.start c.args.stops.now c.walk_on.result
    (past_ends c.args.inst.now c.args.start c.args.stops.now c.walk_on.result (sym c.if-not-both_ends.ensures) c.walk_on.ensures)

pub returns-clause-feasible : goal.returns-clause-feasible
returns-clause-feasible c = let t = told c in t.feasible

pub returns-clause-time : goal.returns-clause-time
returns-clause-time c = let t = told c in t.time

pub returns-clause-last : goal.returns-clause-last
returns-clause-last c = let t = told c in t.last

pub returns-clause-infeasible : goal.returns-clause-infeasible
returns-clause-infeasible c = let t = told c in t.infeasible
