use Rattle.std.proofs.Common.{◌∙◌, ap, subst, sym, nat_eq}
use Rattle.std.proofs.lemmas.Nat.Bits.{shr_and_one}
use Rattle.customer_sets.specs.CustSet.{has, IsCustomerSet}
use Rattle.customer_sets.proofs.Ranges.{has-members, is_set}
use Rattle.customer_sets.proofs.CustSet.has.Goals as goal

pub returns-clause-value : goal.returns-clause-value
returns-clause-value c =
    ap (λ b. nat_eq b 1) (shr_and_one c.self.inside.bits c.args.c)
    ∙ sym (has-members c.self.inside.bits c.args.c c.requires)
    ∙ ap (λ set. has set c.args.c) c.self.view_is

pub returns-clause-set : goal.returns-clause-set
returns-clause-set c = subst (λ set. IsCustomerSet set) c.self.view_is (is_set c.self.inside.bits)
