use Rattle.customer_sets.proofs.Ranges.{members-zero}
use Rattle.customer_sets.proofs.CustSet.empty.Goals as goal

pub returns : goal.returns
returns c = members-zero
