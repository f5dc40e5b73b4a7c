use Rattle.std.proofs.Common.{◌∙◌, ap, length, subst}
use Rattle.customer_sets.specs.CustSet.{IsCustomerSet}
use Rattle.customer_sets.proofs.Ranges.{count-members, is_set}
use Rattle.customer_sets.proofs.CustSet.len.Goals as goal

pub returns-clause-value : goal.returns-clause-value
returns-clause-value c = count-members c.self.inside.bits c.self.invariant ∙ ap length c.self.view_is

pub returns-clause-set : goal.returns-clause-set
returns-clause-set c = subst (λ set. IsCustomerSet set) c.self.view_is (is_set c.self.inside.bits)
