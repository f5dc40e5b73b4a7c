use Rattle.std.proofs.Common.{◌^◌, arith}
use Rattle.decimal_import.proofs.Numbers.{zeros-step, zeros-past}
use Rattle.decimal_import.proofs.rounding.append_zeros.Goals as goal

pub loop-preserved : goal.loop-preserved
loop-preserved c = record {
  told = zeros-step c.args.start c.loop.number c.loop.counter c.loop.invariant.told;
  within = omega arith;
}

pub returns-then-number-gt-MAX_NUMBER-clause-none : goal.returns-then-number-gt-MAX_NUMBER-clause-none
returns-then-number-gt-MAX_NUMBER-clause-none c = zeros-past c.args.start c.loop.number (10 ^ 18) c.loop.counter c.args.count c.loop.invariant.told (omega arith) (omega arith)
