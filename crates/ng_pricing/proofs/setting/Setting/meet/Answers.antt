use Rattle.std.proofs.Common.{◌∙◌, List, arith, subst, sym}
use Rattle.std.proofs.lemmas.Grind.{common_steps}
use Rattle.ng_pricing.specs.Met.{AreMet, IsLimit}
use Rattle.ng_pricing.specs.declared.met.MetRoute.{MetRoute}
use Rattle.ng_pricing.proofs.PriceLimits.{few_numbers, limit_last, met_more, met_route}
use Rattle.ng_pricing.proofs.setting.Setting.meet.Goals as goal

pub allowed-requires-clause-few : goal.allowed-requires-clause-few
allowed-requires-clause-few c =
    let g = c.args.self.now.inst.now in
    let sets = c.args.self.now.sets.now in
    let r = c.in_ok-route.route in
    let is = met_route g sets c.args.plan r c.requires.route c.requires.fits c.in_ok-route.ensures in
    let few = few_numbers g sets r is in
    let most = c.requires.setting.few in
    omega (arith, few, most)

pub returns-clause-met : goal.returns-clause-met
returns-clause-met c =
    let g = c.args.self.now.inst.now in
    let sets = c.args.self.now.sets.now in
    let r = c.in_ok-route.route in
    let is = met_route g sets c.args.plan r c.requires.route c.requires.fits c.in_ok-route.ensures in
    subst (λ (ms : List MetRoute). AreMet c.args.self.now.inst.now c.args.self.now.sets.now ms) (sym c.in_ok-push.ensures.items) (met_more g sets c.args.met.now.items r c.requires.met is)

pub returns-clause-limit : goal.returns-clause-limit
returns-clause-limit c =
    subst (λ (ms : List MetRoute). IsLimit c.args.prices.now c.args.customer ms (record { price = c.in-Some.price; route = c.len.result })) (sym c.in_ok-push.ensures.items)
    (limit_last c.args.prices.now c.args.customer c.args.met.now.items c.in_ok-route.route (record { price = c.in-Some.price; route = c.len.result }) (c.len.ensures ∙ c.args.met.now.ok.0) c.in-Some.ensures.some)

pub returns-clause-pays : goal.returns-clause-pays
returns-clause-pays = grind (arith, common_steps)
