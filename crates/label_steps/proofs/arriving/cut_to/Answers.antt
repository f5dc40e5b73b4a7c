use Rattle.std.proofs.Common.{arith}
use Rattle.piece_fn.specs.PieceFn.{level_times}
use Rattle.label_steps.proofs.Arrivals.{cut_of_itself}
use Rattle.label_steps.proofs.arriving.cut_to.Goals as goal

pub returns-then-least-first-clause-some : goal.returns-then-least-first-clause-some
returns-then-least-first-clause-some c = cut_of_itself c.args.least (level_times c.args.value) (omega (arith, c.if-least-first.true, c.least-first.ensures.level))
