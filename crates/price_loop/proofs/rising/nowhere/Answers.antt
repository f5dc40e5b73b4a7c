use Rattle.std.proofs.Common.{◌∙◌, List, ℕ, ap, set, arith}
use Rattle.std.proofs.lemmas.Grind.{common_steps}
use Rattle.price_loop.proofs.Final.{nowhere_payable}
use Rattle.price_loop.proofs.rising.nowhere.Goals as goal

pub closed_at-requires-clause-payable : goal.closed_at-requires-clause-payable
closed_at-requires-clause-payable g c =
    let q = g.E.Earners.problem c.args.earners.now in
    let lone = c.deref.ensures.value ∙ ap (λ (xs : List ℕ). set xs c.args.customer 1) c.in_ok-of.ensures in
    nowhere_payable q c.args.customer c.customers.result c.deref.result.now c.customers.ensures.value c.requires.customer lone c.requires.nowhere

pub index_mut-requires : goal.index_mut-requires
index_mut-requires = grind (arith, common_steps)

pub closed_at-requires-clause-one_price : goal.closed_at-requires-clause-one_price
closed_at-requires-clause-one_price = grind (arith, common_steps)
