use Rattle.std.proofs.Common.{◌<◌, arith}
use Rattle.std.proofs.lemmas.Grind.{common_steps}
use Rattle.charge_curve.specs.Points.{time_on}
use Rattle.piece_fn.proofs.LastingOrders.{covered_further, last_further, straight_to_less}
use Rattle.piece_fn.proofs.Walks.{walked}
use Rattle.piece_fn.proofs.reach.farthest.Goals as goal

pub next_bend-requires-clause-points : goal.next_bend-requires-clause-points
next_bend-requires-clause-points c = (walked c.loop-low.low c.args.own.now c.loop-low.mine.now c.piece_at-mine.result.now c.loop-low.invariant.mine_points c.loop-low.invariant.mine_last c.loop-low.invariant.mine_times c.piece_at-mine.ensures).are

pub next_bend-requires-clause-low : goal.next_bend-requires-clause-low
next_bend-requires-clause-low c =
    let mine = walked c.loop-low.low c.args.own.now c.loop-low.mine.now c.piece_at-mine.result.now c.loop-low.invariant.mine_points c.loop-low.invariant.mine_last c.loop-low.invariant.mine_times c.piece_at-mine.ensures in
    omega (arith, mine.last, c.loop-low-test.true, c.requires.end)

pub next_bend-requires-clause-piece : goal.next_bend-requires-clause-piece
next_bend-requires-clause-piece c = (walked c.loop-low.low c.args.own.now c.loop-low.mine.now c.piece_at-mine.result.now c.loop-low.invariant.mine_points c.loop-low.invariant.mine_last c.loop-low.invariant.mine_times c.piece_at-mine.ensures).before

pub next_bend-requires-in-loop-low-clause-points : goal.next_bend-requires-in-loop-low-clause-points
next_bend-requires-in-loop-low-clause-points c = (walked c.loop-low.low c.args.other.now c.loop-low.its.now c.piece_at-its.result.now c.loop-low.invariant.its_points c.loop-low.invariant.its_last c.loop-low.invariant.its_times c.piece_at-its.ensures).are

pub next_bend-requires-in-loop-low-clause-low : goal.next_bend-requires-in-loop-low-clause-low
next_bend-requires-in-loop-low-clause-low c =
    let its = walked c.loop-low.low c.args.other.now c.loop-low.its.now c.piece_at-its.result.now c.loop-low.invariant.its_points c.loop-low.invariant.its_last c.loop-low.invariant.its_times c.piece_at-its.ensures in
    omega (arith, its.last, c.loop-low-test.true, c.requires.end)

pub next_bend-requires-in-loop-low-clause-piece : goal.next_bend-requires-in-loop-low-clause-piece
next_bend-requires-in-loop-low-clause-piece c = (walked c.loop-low.low c.args.other.now c.loop-low.its.now c.piece_at-its.result.now c.loop-low.invariant.its_points c.loop-low.invariant.its_last c.loop-low.invariant.its_times c.piece_at-its.ensures).before

pub lasts_to-last-requires-clause-own : goal.lasts_to-last-requires-clause-own
lasts_to-last-requires-clause-own c = (walked c.loop-low.low c.args.own.now c.loop-low.mine.now c.piece_at-mine.result.now c.loop-low.invariant.mine_points c.loop-low.invariant.mine_last c.loop-low.invariant.mine_times c.piece_at-mine.ensures).are

pub lasts_to-last-requires-clause-other : goal.lasts_to-last-requires-clause-other
lasts_to-last-requires-clause-other c = (walked c.loop-low.low c.args.other.now c.loop-low.its.now c.piece_at-its.result.now c.loop-low.invariant.its_points c.loop-low.invariant.its_last c.loop-low.invariant.its_times c.piece_at-its.ensures).are

pub lasts_to-last-requires-clause-own_straight : goal.lasts_to-last-requires-clause-own_straight
lasts_to-last-requires-clause-own_straight c =
    straight_to_less c.piece_at-mine.result.now c.loop-low.low c.next_bend.result c.min-high.result c.next_bend.ensures.straight (omega (arith, c.min-high.ensures))

pub lasts_to-last-requires-clause-other_straight : goal.lasts_to-last-requires-clause-other_straight
lasts_to-last-requires-clause-other_straight c =
    straight_to_less c.piece_at-its.result.now c.loop-low.low c.next_bend-in-loop-low.result c.min-high.result c.next_bend-in-loop-low.ensures.straight (omega (arith, c.min-high.ensures))

pub lasts_to-last-requires-clause-covered : goal.lasts_to-last-requires-clause-covered
lasts_to-last-requires-clause-covered c =
    let mine = walked c.loop-low.low c.args.own.now c.loop-low.mine.now c.piece_at-mine.result.now c.loop-low.invariant.mine_points c.loop-low.invariant.mine_last c.loop-low.invariant.mine_times c.piece_at-mine.ensures in
    let its = walked c.loop-low.low c.args.other.now c.loop-low.its.now c.piece_at-its.result.now c.loop-low.invariant.its_points c.loop-low.invariant.its_last c.loop-low.invariant.its_times c.piece_at-its.ensures in
    let here = c.loop-low.invariant.covered c.loop-low.low c.loop-low.invariant.above (omega arith) in
    omega (arith, here, mine.times c.loop-low.low (omega arith), its.times c.loop-low.low (omega arith))

pub returns-then-last-high : goal.returns-then-last-high
returns-then-last-high c =
    let mine = walked c.loop-low.low c.args.own.now c.loop-low.mine.now c.piece_at-mine.result.now c.loop-low.invariant.mine_points c.loop-low.invariant.mine_last c.loop-low.invariant.mine_times c.piece_at-mine.ensures in
    let its = walked c.loop-low.low c.args.other.now c.loop-low.its.now c.piece_at-its.result.now c.loop-low.invariant.its_points c.loop-low.invariant.its_last c.loop-low.invariant.its_times c.piece_at-its.ensures in
    last_further (time_on c.args.own.now) (time_on c.args.other.now) (time_on c.piece_at-mine.result.now) (time_on c.piece_at-its.result.now) c.args.extra c.args.from c.loop-low.low c.min-high.result c.lasts_to-last.result c.args.end
    mine.times its.times c.loop-low.invariant.covered c.lasts_to-last.ensures c.if-last-high.true c.loop-low.invariant.above
    (omega (arith, c.min-high.ensures, c.next_bend.ensures.within, c.next_bend-in-loop-low.ensures.within, mine.last, its.last, c.requires.end))

pub loop-low-preserved : goal.loop-low-preserved
loop-low-preserved c =
    let mine = walked c.loop-low.low c.args.own.now c.loop-low.mine.now c.piece_at-mine.result.now c.loop-low.invariant.mine_points c.loop-low.invariant.mine_last c.loop-low.invariant.mine_times c.piece_at-mine.ensures in
    let its = walked c.loop-low.low c.args.other.now c.loop-low.its.now c.piece_at-its.result.now c.loop-low.invariant.its_points c.loop-low.invariant.its_last c.loop-low.invariant.its_times c.piece_at-its.ensures in
    let up : c.loop-low.low < c.min-high.result = omega (arith, c.min-high.ensures, c.next_bend.ensures.above, c.next_bend-in-loop-low.ensures.above) in
    record {
      mine_points = mine.are;
      its_points = its.are;
      mine_last = mine.last;
      its_last = its.last;
      mine_times = λ level le. mine.times level (omega (arith, le, up));
      its_times = λ level le. its.times level (omega (arith, le, up));
      above = omega (arith, c.loop-low.invariant.above, up);
      within = omega (arith, c.min-high.ensures, c.next_bend.ensures.within, c.next_bend-in-loop-low.ensures.within, mine.last, its.last, c.requires.end);
      covered = λ level le top.
          covered_further (time_on c.args.own.now) (time_on c.args.other.now) (time_on c.piece_at-mine.result.now) (time_on c.piece_at-its.result.now) c.args.extra c.args.from c.loop-low.low c.min-high.result c.lasts_to-last.result
          mine.times its.times c.loop-low.invariant.covered c.lasts_to-last.ensures level le (omega (arith, top, c.if-last-high.false));
    }

pub loop-low-init : goal.loop-low-init
loop-low-init = grind (arith, common_steps)
