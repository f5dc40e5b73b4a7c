use Rattle.std.proofs.Common.{arith}
use Rattle.ev_fleet.proofs.strong.gains.Goals as goal

pub child_pairs-apart-requires-clause-first : goal.child_pairs-apart-requires-clause-first
child_pairs-apart-requires-clause-first c =
    let pair = c.requires.choice c.requires.live.node c.requires.live.here in
    let customers = c.pairs.ensures.customers in
    (pair.first.0, omega (arith, pair.first.1, customers))

pub child_pairs-apart-requires-clause-second : goal.child_pairs-apart-requires-clause-second
child_pairs-apart-requires-clause-second c =
    let pair = c.requires.choice c.requires.live.node c.requires.live.here in
    let customers = c.pairs.ensures.customers in
    (pair.second.0, omega (arith, pair.second.1, customers))

pub child_pairs-apart-requires-clause-apart : goal.child_pairs-apart-requires-clause-apart
child_pairs-apart-requires-clause-apart c = (c.requires.choice c.requires.live.node c.requires.live.here).apart
