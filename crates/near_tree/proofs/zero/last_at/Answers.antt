use Rattle.std.proofs.Common.{ℕ, Option, subst}
use Rattle.std.specs.Prelude.{◌<◌, IfSome, length}
use Rattle.instance_reader.specs.Instance.{IsCustomerNumber, customer_nodes}
use Rattle.near_tree.proofs.ZeroTrees.{last_of_number, number_fits}
use Rattle.near_tree.proofs.zero.last_at.Goals as goal

pub returns-in-Some-clause-last : goal.returns-in-Some-clause-last
returns-in-Some-clause-last c =
    let g = c.args.inst.now in
    last_of_number g c.args.node c.in-Some.number (subst (λ (o : Option ℕ). IsCustomerNumber g c.args.node o) c.in-Some.is c.customer_number.ensures.value)

pub returns-in-Some-clause-fits : goal.returns-in-Some-clause-fits
returns-in-Some-clause-fits c =
    let g = c.args.inst.now in
    number_fits g c.args.node c.in-Some.number (subst (λ (o : Option ℕ). IsCustomerNumber g c.args.node o) c.in-Some.is c.customer_number.ensures.value)
    (subst (λ (o : Option ℕ). IfSome o (λ number. number < length (customer_nodes g))) c.in-Some.is c.customer_number.ensures.within)
