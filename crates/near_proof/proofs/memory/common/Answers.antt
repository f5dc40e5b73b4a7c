use Rattle.std.proofs.Common.{arith}
use Rattle.near_proof.proofs.Members.{all_members}
use Rattle.near_proof.proofs.memory.common.Goals as goal

pub returns : goal.returns
returns c = all_members c.loop-c.both c.args.one c.args.other c.loop-c.c c.len.ensures.set (omega (arith, c.loop-c-test.false)) c.loop-c.invariant
