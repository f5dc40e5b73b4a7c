use Rattle.near_tree.proofs.Counting.{counted_is, counted_more, counted_none, counted_small, left_at, left_none, next_small}
use Rattle.near_tree.proofs.counted.counted_along.Goals as goal

pub loop-turn-init : goal.loop-turn-init
loop-turn-init c = counted_none c.args.path.now c.new-counted.result.items c.new-counted.ensures.items

pub narrow-requires : goal.narrow-requires
narrow-requires c =
    next_small c.args.path.now _ _ c.turn-item.result (left_at c.args.path.now c.loop-turn.turn-index c.turn-item.result c.loop-turn-test.true c.turn-item.is) c.loop-turn.counted.items c.loop-turn.invariant c.requires.0 c.requires.1 c.requires.2

pub loop-turn-preserved : goal.loop-turn-preserved
loop-turn-preserved c =
    counted_more c.args.path.now _ _ c.turn-item.result (left_at c.args.path.now c.loop-turn.turn-index c.turn-item.result c.loop-turn-test.true c.turn-item.is) c.loop-turn.counted.items c.loop-turn.invariant c.narrow.new.counted.items c.in_ok-narrow.ensures

pub returns-clause-value : goal.returns-clause-value
returns-clause-value c = counted_is c.args.path.now _ (left_none c.args.path.now c.loop-turn.turn-index c.loop-turn-test.false) c.loop-turn.counted.items c.loop-turn.invariant

pub returns-clause-small : goal.returns-clause-small
returns-clause-small c = counted_small c.args.path.now _ (left_none c.args.path.now c.loop-turn.turn-index c.loop-turn-test.false) c.loop-turn.counted.items c.loop-turn.invariant c.requires.0 c.requires.1 c.requires.2
