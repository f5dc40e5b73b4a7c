use Rattle.std.proofs.Common.{rules, ◌/◌, length, take, arith}
use Rattle.std.proofs.lemmas.Grind.{common_steps}
use Rattle.ev_outside.proofs.StreamLemmas.{take-IsPrefixOf}
use Rattle.ev_outside.proofs.memory_sink.MemorySinkSink.put.Goals as goal

pub returns-then-fails-2-clause-prefix : goal.returns-then-fails-2-clause-prefix
returns-then-fails-2-clause-prefix c =
    let half = length c.args.bytes.now / 2 in
    (take half c.args.bytes.now, take-IsPrefixOf half c.args.bytes.now, search rules)

pub returns-clause-failed : goal.returns-clause-failed
returns-clause-failed = grind (arith, common_steps)

pub returns-then-fails-2-clause-halved : goal.returns-then-fails-2-clause-halved
returns-then-fails-2-clause-halved = grind (arith, common_steps)

pub returns-then-fails-2-clause-failed : goal.returns-then-fails-2-clause-failed
returns-then-fails-2-clause-failed = grind (arith, common_steps)
