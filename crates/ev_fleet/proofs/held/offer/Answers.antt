use Rattle.ev_fleet.proofs.held.offer.Goals as goal

pub returns-in-Err-clause-plan : goal.returns-in-Err-clause-plan
returns-in-Err-clause-plan c = λ fleet. absurd ((c.fleet_plans_break_no_rule.ensures c.args.inst.now c.args.plan.routes).0 fleet c.in-Err.field-0 c.in-Err.ensures.broken.broken)
