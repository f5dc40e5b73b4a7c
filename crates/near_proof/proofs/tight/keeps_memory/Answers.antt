use Rattle.std.proofs.Common.{◌≡◌, ◌∙◌, ◌<◌, [], length, sym, arith}
use Rattle.std.proofs.lemmas.Grind.{common_steps}
use Rattle.std.specs.Prelude.{slice_index}
use Rattle.std.proofs.lemmas.List.{get_or_default}
use Rattle.near_proof.specs.Terms.{near_set}
use Rattle.near_proof.proofs.TightRoutes.{keeps_next}
use Rattle.near_proof.proofs.tight.keeps_memory.Goals as goal

pub loop-customer-preserved : goal.loop-customer-preserved
loop-customer-preserved c =
    let cs = c.args.customers.now in
    let i = c.loop-customer.customer-index in
    let known : slice_index c.args.customers.now c.loop-customer.customer-index < length c.args.sets.now = c.requires.known i 0 c.loop-customer-test.true in
    let near : c.index-sets-customer.result ≡ near_set c.args.sets.now (slice_index c.args.customers.now c.loop-customer.customer-index) = c.index-sets-customer.is ∙ get_or_default c.args.sets.now (slice_index cs i) c.index-sets-customer.result [] known in
    let next = keeps_next c.args.sets.now c.loop-customer.memory c.remembered-memory.result c.index-sets-customer.result cs i c.loop-customer-test.true near c.remembered-memory.ensures (sym c.has.ensures.value ∙ c.if-has.false) in
    (λ keeps. next.0 (c.loop-customer.invariant.0 keeps), λ keeps. c.loop-customer.invariant.1 (next.1 keeps))

pub returns-then-has : goal.returns-then-has
returns-then-has = grind (arith, common_steps)

pub returns : goal.returns
returns = grind (arith, common_steps)
