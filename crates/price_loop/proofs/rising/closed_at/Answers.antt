use Rattle.std.proofs.Common.{◌∙◌, subst, arith}
use Rattle.std.proofs.lemmas.Grind.{common_steps}
use Rattle.price_loop.specs.Problems.{IsEarned}
use Rattle.price_loop.specs.declared.earners.Earned.{Earned}
use Rattle.price_loop.proofs.Final.{none_better}
use Rattle.price_loop.proofs.rising.closed_at.Goals as goal

pub unreachable-requires : goal.unreachable-requires
unreachable-requires g c =
    let q = g.E.Earners.problem c.args.earners.now in
    let ps = c.deref.result.now in
    let same = c.deref.ensures.value ∙ c.in_ok-prices.ensures.of in
    let earned = subst (λ (x : Earned g.row.E-Route.Denot g.row.E-Closing.Denot). IsEarned q c.args.weight ps x) c.in-Better.is c.in_ok-closing.ensures in
    none_better q c.args.weight c.args.of.now ps same c.in-Better.first earned.0 c.requires.payable

pub earn-requires-clause-one_price : goal.earn-requires-clause-one_price
earn-requires-clause-one_price = grind (arith, common_steps)

pub returns-clause-small : goal.returns-clause-small
returns-clause-small = grind (arith, common_steps)
