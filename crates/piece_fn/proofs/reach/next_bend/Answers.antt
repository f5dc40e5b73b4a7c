use Rattle.piece_fn.proofs.LastingOrders.{first_within, second_within, straight_to_second}
use Rattle.piece_fn.proofs.reach.next_bend.Goals as goal

pub returns-then-low-point-clause-within : goal.returns-then-low-point-clause-within
returns-then-low-point-clause-within c = first_within c.args.points.now (0, 0) c.requires.points

pub returns-else-low-point-clause-within : goal.returns-else-low-point-clause-within
returns-else-low-point-clause-within c = second_within c.args.points.now (0, 0) c.requires.points c.in-len2-up.len_at_least

pub returns-else-low-point-clause-straight : goal.returns-else-low-point-clause-straight
returns-else-low-point-clause-straight c = straight_to_second c.args.points.now c.args.low (0, 0) c.requires.points c.in-len2-up.len_at_least c.if-low-point.false
