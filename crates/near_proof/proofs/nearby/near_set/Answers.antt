use Rattle.std.proofs.Common.{◌∙◌, sym, arith}
use Rattle.std.proofs.lemmas.Grind.{elements}
use Rattle.near_proof.proofs.NearMembers.{holds_with}
use Rattle.near_proof.proofs.nearby.near_set.Goals as goal

pub loop-number-preserved : goal.loop-number-preserved
loop-number-preserved c =
    holds_with c.args.inst.now c.args.near c.args.node c.customers-customers.result.now c.loop-number.set c.loop-number.number c.loop-number-test.true c.loop-number.invariant c.with-set.result (sym c.belongs.ensures ∙ c.if-not-belongs.false) c.with-set.ensures.members

pub loop-number-preserved-then-not-belongs : goal.loop-number-preserved-then-not-belongs
loop-number-preserved-then-not-belongs = grind (arith, elements)
