use Rattle.std.proofs.Common.{take}
use Rattle.std.specs.List.{All}
use Rattle.customer_sets.specs.CustSet.{IsCustomerSet}
use Rattle.ng_pricing.proofs.kept.know_sets.Given as goal

abbrev pub invariant-loop-set : goal.invariant-loop-set
invariant-loop-set l = All IsCustomerSet (take l.set-index l.sets)
