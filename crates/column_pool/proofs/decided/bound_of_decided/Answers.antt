use Rattle.std.proofs.Common.{◌∙◌, ℕ, List, ap, get_or, sym, arith}
use Rattle.std.proofs.lemmas.Grind.{common_steps}
use Rattle.std.specs.Prelude.{slice_get}
use Rattle.std.proofs.lemmas.Option.{slice_get-get_or}
use Rattle.fleet_model.proofs.Numbers.{numbered}
use Rattle.route_pool.proofs.GrownPools.{grown_further}
use Rattle.column_pool.proofs.decided.bound_of_decided.Goals as goal

pub serve-requires-clause-number : goal.serve-requires-clause-number
serve-requires-clause-number c =
    let items = c.customers-node-items.result.now in
    let i = c.loop-number.number in
    let there = ap (λ (xs : List ℕ). slice_get xs i) (sym c.customers-node-items.ensures.value) ∙ slice_get-get_or items i 0 c.loop-number-test.true in
    numbered c.args.inst.now i (get_or items i 0) there

pub returns-in-Some-clause-grown : goal.returns-in-Some-clause-grown
returns-in-Some-clause-grown c =
    grown_further c.args.inst.now c.args.pool.now c.loop-number.pool c.serve.new.pool c.loop-number.invariant.grown c.in_ok-section.ensures.grown

pub loop-number-init : goal.loop-number-init
loop-number-init = grind (arith, common_steps)

pub into_bound-requires-clause-chains : goal.into_bound-requires-clause-chains
into_bound-requires-clause-chains = grind (arith, common_steps)

pub returns-in-Some-clause-bound : goal.returns-in-Some-clause-bound
returns-in-Some-clause-bound = grind (arith, common_steps)
