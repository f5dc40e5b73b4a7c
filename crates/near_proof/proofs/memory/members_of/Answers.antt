use Rattle.std.proofs.Common.{arith}
use Rattle.std.proofs.lemmas.Grind.{common_steps}
use Rattle.near_proof.proofs.Members.{are_members}
use Rattle.near_proof.proofs.memory.members_of.Goals as goal

pub returns : goal.returns
returns c = are_members c.loop-c.members.items c.args.set c.loop-c.c c.len.ensures.set (omega (arith, c.loop-c-test.false)) c.loop-c.invariant.0 c.loop-c.invariant.1

pub loop-c-preserved : goal.loop-c-preserved
loop-c-preserved = grind (arith, common_steps)
