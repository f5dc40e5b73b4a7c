use Rattle.std.proofs.Common.{arith}
use Rattle.std.proofs.lemmas.Grind.{common_steps}
use Rattle.std.proofs.lemmas.Result.{IfOk-weaker}
use Rattle.frvcp_labels.proofs.SearchLoops.{before_end}
use Rattle.frvcp_labels.proofs.trip.Trip.spread_on_way.Goals as goal

pub spread-requires-clause-on_way : goal.spread-requires-clause-on_way
spread-requires-clause-on_way c label here =
    before_end c.args.self.now c.args.pool.now.labels c.args.i c.end.result c.value.result.now c.requires.pool.trip c.requires.pool.labels c.end.ensures.value c.if-value-end.false c.value.ensures label here

pub returns-clause-spreads : goal.returns-clause-spreads
returns-clause-spreads c = IfOk-weaker c.spread.result _ _ (λ u spreads label here on_way. spreads label here) c.spread.ensures.spreads

pub returns-then-value-end-clause-spreads : goal.returns-then-value-end-clause-spreads
returns-then-value-end-clause-spreads = grind (arith, common_steps)
