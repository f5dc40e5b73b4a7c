use Rattle.std.proofs.Common.{subst, arith}
use Rattle.std.proofs.lemmas.Grind.{common_steps}
use Rattle.certificate_check.specs.Shares.{TellsEven}
use Rattle.certificate_check.proofs.ShareSums.{small_cost}
use Rattle.certificate_check.proofs.cover.cover_exactly.Goals as goal

pub cost_the_prices-requires-clause-cost : goal.cost_the_prices-requires-clause-cost
cost_the_prices-requires-clause-cost c =
    small_cost c.args.customers c.args.over c.args.shares.now c.requires.few c.requires.over.small c.requires.routes
    (subst (TellsEven c.args.customers c.args.over c.args.shares.now) c.if-not-are_even.false c.are_even.ensures)

pub returns : goal.returns
returns = grind (arith, common_steps)
