use Rattle.std.proofs.Common.{arith}
use Rattle.customer_sets.specs.Restored.{bits_of-view}
use Rattle.customer_sets.proofs.CustSetPartialEq.eq.Goals as goal

pub returns : goal.returns
returns c = grind (arith, bits_of-view)
