use Rattle.ev_fleet.specs.Held.{cost_at}
use Rattle.ev_fleet.proofs.OwnCosts.{own_cost}
use Rattle.ev_fleet.proofs.state.hold_own.Goals as goal

pub returns-clause-own : goal.returns-clause-own
returns-clause-own c = own_cost c.args.inst.now c.in_ok-plan.plan (cost_at c.held_of.result) c.in_ok-plan.ensures.own c.held_of.ensures.cost
