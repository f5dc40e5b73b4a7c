use Rattle.std.proofs.Common.{List, [], arith, subst, sym}
use Rattle.closed_lists.specs.Questions.{Question}
use Rattle.pricing.specs.Answers.{AreClosed, IsPriced}
use Rattle.pricing.specs.declared.priced.Priced.TheVariants.{Better}
use Rattle.bound_certificate.specs.declared.certificate.Share.{Share}
use Rattle.column_pool.specs.Bounds.{IsExact, IsPlanAtBound, plans_of}
use Rattle.column_pool.proofs.FleetChains.{exact, has_plan, none_earns}
use Rattle.column_pool.proofs.Sections.{section_closed}
use Rattle.column_pool.proofs.decided.Chains.into_bound.Goals as goal

pub unreachable-requires : goal.unreachable-requires
unreachable-requires c =
    let q : Question = record { network = c.args.inst.now; pairs = c.args.pairs.now; weight = 1; prices = c.args.self.prices.items; labels = [] } in
    let priced : IsPriced q (Better c.in-Better.plan c.in-Better.order c.in-Better.further) = subst (IsPriced q) c.in-Better.is c.in_ok-price.ensures in
    none_earns c.args.inst.now c.args.pairs.now c.args.self.shares.items c.args.self.prices.items c.requires.chains c.requires.decided c.requires.pairs c.in-Better.plan.stops c.in-Better.order.items priced.0

pub returns-clause-bound : goal.returns-clause-bound
returns-clause-bound c =
    let g = c.args.inst.now in
    let p = c.args.pairs.now in
    let q : Question = record { network = c.args.inst.now; pairs = c.args.pairs.now; weight = 1; prices = c.args.self.prices.items; labels = [] } in
    let closed : AreClosed q c.in-Closed.labels.items = subst (IsPriced q) c.in-Closed.is c.in_ok-price.ensures in
    let told = c.section_of.ensures in
    let section = section_closed g p c.section_of.result 1 c.args.self.prices.items c.in-Closed.labels.items closed told.pairs told.weight told.prices told.labels c.requires.pairs (omega arith) c.requires.chains.count c.requires.chains.small told.few in
    let few = c.args.self.shares.small in
    let is = exact g p c.args.self.shares.items c.args.self.prices.items c.requires.chains c.nodes-nodes.ensures.network c.section_of.result section told.weight told.prices (omega (arith, few)) in
    subst (λ (xs : List Share). IsExact g p c.section_of.result 1 xs) (sym c.from_vec.ensures) is

pub returns-clause-decided : goal.returns-clause-decided
returns-clause-decided c =
    let is = has_plan c.args.inst.now c.args.pairs.now c.args.self.shares.items c.args.self.prices.items c.requires.chains c.section_of.result c.section_of.ensures.weight c.section_of.ensures.prices in
    subst (λ (xs : List Share). IsPlanAtBound c.args.inst.now c.args.pairs.now c.section_of.result (plans_of xs)) (sym c.from_vec.ensures) is
