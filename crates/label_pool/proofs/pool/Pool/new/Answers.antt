use Rattle.std.proofs.Common.{arith}
use Rattle.std.proofs.lemmas.Grind.{common_steps}
use Rattle.label_pool.proofs.Ties.{tied_new}
use Rattle.label_pool.proofs.pool.Pool.new.Goals as goal

pub invariant_of-result : goal.invariant_of-result
invariant_of-result g c =
    tied_new c.new.result.items c.new-live.result c.grow.new.self c.new-2.result c.args.buckets c.new.ensures.items c.new-live.ensures c.in_ok-grow.ensures.ok c.new-2.ensures

pub returns : goal.returns
returns = grind (arith, common_steps)
