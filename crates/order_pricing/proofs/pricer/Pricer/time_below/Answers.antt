use Rattle.order_pricing.proofs.pricer.Pricer.time_below.Goals as goal

pub returns-clause-time : goal.returns-clause-time
returns-clause-time c = c.below-2.ensures c.args.self.now c.args.order.now c.in_ok-told.ensures.known
