use Rattle.std.proofs.Common.{take}
use Rattle.label_steps.specs.Paying.{AreCharged}
use Rattle.label_steps.proofs.paying.charged_where_it_pays.Given as goal

abbrev pub invariant-loop-start : goal.invariant-loop-start
invariant-loop-start l = AreCharged l.fn.value l.curve l.limit (take l.start-index l.start-items) l.values.items
