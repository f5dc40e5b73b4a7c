use Rattle.std.proofs.Common.{◌≡◌, arith, subst}
use Rattle.rounding_law.specs.Best.{IsFastestOffset}
use Rattle.rounding_law.proofs.Fastest.{IsBestBelow, best_no_slower, best_of_all}
use Rattle.rounding_law.proofs.best.fastest_offset.Goals as goal

all_tried : (c : goal.After-loop-j) → IsFastestOffset c.args.inst.now c.args.p.now.k c.args.start c.args.p.now.stops c.loop-j.fastest
all_tried c =
    let at_end : c.loop-j.j ≡ c.args.p.now.k = omega (arith, c.loop-j-test.false, c.loop-j.auto.j-end) in
    best_of_all c.args.inst.now c.args.p.now.k c.args.start c.args.p.now.stops c.loop-j.fastest c.loop-j.least c.nodes.ensures.network c.requires
    (subst (λ n. IsBestBelow c.args.inst.now c.args.p.now.k c.args.start c.args.p.now.stops n c.loop-j.fastest c.loop-j.least) at_end c.loop-j.invariant)

pub returns-clause-fastest : goal.returns-clause-fastest
returns-clause-fastest c = all_tried c

pub returns-clause-no_slower : goal.returns-clause-no_slower
returns-clause-no_slower c =
    best_no_slower c.args.inst.now c.args.p.now.k c.args.start c.args.p.now.stops c.loop-j.fastest c.nodes.ensures.network c.requires (all_tried c)
