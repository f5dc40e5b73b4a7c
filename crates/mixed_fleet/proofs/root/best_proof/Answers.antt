use Rattle.std.proofs.Common.{arith}
use Rattle.std.proofs.lemmas.Grind.{common_steps}
use Rattle.mixed_fleet.proofs.root.best_proof.Goals as goal

pub price_out_watched-requires-clause-begin : goal.price_out_watched-requires-clause-begin
price_out_watched-requires-clause-begin = grind (arith, common_steps)

pub returns-clause-met : goal.returns-clause-met
returns-clause-met = grind (arith, common_steps)

pub wide_proof-requires-clause-wide : goal.wide_proof-requires-clause-wide
wide_proof-requires-clause-wide = grind (arith, common_steps)

pub proof_at_end-requires-clause-closed : goal.proof_at_end-requires-clause-closed
proof_at_end-requires-clause-closed = grind (arith, common_steps)
