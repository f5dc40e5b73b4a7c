use Rattle.std.proofs.Common.{arith}
use Rattle.std.proofs.lemmas.Grind.{common_steps}
use Rattle.route_proof.proofs.judged.Judged.station_is_covered.Goals as goal

pub returns-then-is_none : goal.returns-then-is_none
returns-then-is_none = grind (arith, common_steps)

pub step_is_covered-requires-clause-next : goal.step_is_covered-requires-clause-next
step_is_covered-requires-clause-next = grind (arith, common_steps)
