use Rattle.std.proofs.Common.{◌∙◌, ◌≤◌, ◌-◌, ◌/◌, List, ℕ, ap, arith}
use Rattle.ev_model.specs.Fleet.{times_in}
use Rattle.near_proof.specs.Terms.{earned_by}
use Rattle.ng_pricing.proofs.PriceLimits.{allowed_price}
use Rattle.ng_pricing.proofs.met.MetRoute.allowed.Goals as goal

pub returns-clause-some : goal.returns-clause-some
returns-clause-some c =
    let prices = c.args.prices.now in
    let r = c.args.self.now in
    let e = c.earned_by.result in
    let m = c.times_in-times.result in
    let served = c.if-times-eq0.false in
    let some : 1 ≤ c.times_in-times.result = omega (arith, served) in
    let earned = c.earned_by.ensures.value ∙ ap (λ (ns : List ℕ). earned_by c.args.prices.now ns) c.as_slice-numbers.ensures in
    let times = c.times_in-times.ensures.value ∙ ap (λ (ns : List ℕ). times_in ns c.args.customer) c.as_slice-numbers.ensures in
    allowed_price prices c.args.customer r e m ((c.from.result - c.earned_by.result) / c.times_in-times.result) c.requires.customer c.requires.free c.requires.pays earned times some
    (ap (λ (t : ℕ). (t - c.earned_by.result) / c.times_in-times.result) c.from.ensures)
