use Rattle.ng_pricing.proofs.Lowered.{lowered_by}
use Rattle.ng_pricing.proofs.met.MetRoute.lower.Goals as goal

pub returns : goal.returns
returns c =
    lowered_by c.args.self.now c.args.prices.now c.dearest-customer.result c.paid.result c.requires.earns c.dearest-customer.ensures.known c.dearest-customer.ensures.some c.paid.ensures.least c.paid.ensures.most
