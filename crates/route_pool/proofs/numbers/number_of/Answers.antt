use Rattle.fleet_model.proofs.Numbers.{numbered}
use Rattle.route_pool.proofs.numbers.number_of.Goals as goal

pub returns-clause-value : goal.returns-clause-value
returns-clause-value c = numbered c.args.inst.now c.in-Some.number c.args.node c.in-Some.ensures.value.1
