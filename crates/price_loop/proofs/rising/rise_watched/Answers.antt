use Rattle.std.proofs.Common.{List, ℕ, subst, sym, arith}
use Rattle.std.proofs.lemmas.Grind.{common_steps}
use Rattle.price_loop.specs.Rising.{AreFixed}
use Rattle.price_loop.proofs.Final.{none_fixed}
use Rattle.price_loop.proofs.rising.rise_watched.Goals as goal

pub loop-customer-init : goal.loop-customer-init
loop-customer-init g c =
    let q = g.E.Earners.problem c.args.earners.now in
    subst (λ (xs : List ℕ). AreFixed q xs 0) (sym c.in_ok-of.ensures) (none_fixed q c.customers-customers.result c.customers-customers.ensures.value)

pub closed_at-requires-clause-payable : goal.closed_at-requires-clause-payable
closed_at-requires-clause-payable = grind (arith, common_steps)

pub returns : goal.returns
returns = grind (arith, common_steps)

pub nowhere-requires-clause-nowhere : goal.nowhere-requires-clause-nowhere
nowhere-requires-clause-nowhere = grind (arith, common_steps)

pub loop-customer-preserved : goal.loop-customer-preserved
loop-customer-preserved = grind (arith, common_steps)
