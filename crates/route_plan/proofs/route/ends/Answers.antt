use Rattle.std.proofs.Common.{sym, arith}
use Rattle.route_plan.proofs.Rules.{has_ends-last}
use Rattle.route_plan.proofs.route.ends.Goals as goal

pub returns-then-first-eq0 : goal.returns-then-first-eq0
returns-then-first-eq0 c = sym (has_ends-last c.args.nodes.now (omega arith) c.if-first-eq0.true)
