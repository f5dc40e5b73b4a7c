use Rattle.std.proofs.Common.{◌+◌, List, ℕ, ap, arith}
use Rattle.near_proof.specs.Terms.{earned_by}
use Rattle.ng_pricing.proofs.Earnings.{earned_set}
use Rattle.ng_pricing.proofs.PriceLimits.{falls}
use Rattle.ng_pricing.proofs.met.MetRoute.paid.Goals as goal

pub returns-then-earned_by-from-clause-most : goal.returns-then-earned_by-from-clause-most
returns-then-earned_by-from-clause-most c =
    let prices = c.args.prices.now in
    let numbers = c.args.self.now.numbers in
    let now = earned_set prices c.args.customer 1 numbers c.requires.customer c.requires.free in
    let same = ap (λ (ns : List ℕ). earned_by c.args.prices.now ns) c.as_slice.ensures in
    let earns = c.if-earned_by-from.true in
    let value = c.earned_by.ensures.value in
    let time = c.from.ensures in
    omega (arith, now, same, earns, value, time)

pub returns-clause-least : goal.returns-clause-least
returns-clause-least c price some earns =
    let allowed = c.in-Some.ensures.some in
    falls c.args.prices.now c.args.customer price c.in-Some.price c.args.self.now.time c.args.self.now.numbers c.requires.customer c.requires.free allowed.pays earns

pub returns-clause-most : goal.returns-clause-most
returns-clause-most c =
    let prices = c.args.prices.now in
    let numbers = c.args.self.now.numbers in
    let allowed = c.in-Some.ensures.some in
    let now = earned_set prices c.args.customer c.in-Some.price numbers c.requires.customer c.requires.free in
    let more = earned_set prices c.args.customer (c.in-Some.price + 1) numbers c.requires.customer c.requires.free in
    omega (arith, now, more, allowed.most)
