use Rattle.std.proofs.Common.{◌≡◌, ◌∙◌, ◌+◌, ◌≤◌, ℕ, ℤ, pos, List, [], ◌∷◌, ◌++◌, Fits, FitsSigned, of_z, to_z, w64, arith, ap, refl, rules, subst, sym, true, false}
use Rattle.std.proofs.lemmas.Grind.{common_steps}
use Rattle.std.specs.Int.{w128}
use Rattle.std.proofs.lemmas.Int.{ints}
use Rattle.ev_model.specs.Fleet.{customers_of, times_in}
use Rattle.pricing.specs.declared.priced.PricedRoute.{PricedRoute}
use Rattle.bound_certificate.specs.declared.certificate.Share.{Share}
use Rattle.column_pool.specs.Chains.{AreChains, is_served, IsChainThrough}
use Rattle.column_pool.specs.declared.decided.Chain.TheVariants as chain
use Rattle.route_pool.specs.Pool.{IsGrown}
use Rattle.column_pool.proofs.ChainSteps.{chains_grow, chains_stay}
use Rattle.route_pool.proofs.GrownPools.{grown_put, grown_same}
use Rattle.column_pool.proofs.ServedTests.{served_tells}
use Rattle.column_pool.proofs.decided.Chains.serve.Goals as goal

pub returns-then-is_served-clause-chains : goal.returns-then-is_served-clause-chains
returns-then-is_served-clause-chains c =
    let shares = c.args.self.now.shares.items in
    let prices = c.args.self.now.prices.items in
    let test : is_served c.args.node shares ≡ true = ap (is_served c.args.node) (sym c.deref.ensures.value) ∙ sym c.is_served.ensures ∙ c.if-is_served.true in
    let here = (served_tells c.args.inst.now c.args.node c.requires.customer shares).some test in
    let stay = chains_stay c.args.inst.now c.args.pairs.now c.args.number c.args.node shares prices c.requires.number c.requires.customer c.requires.chains here in
    subst (λ (ps : List ℤ). AreChains c.args.inst.now c.args.pairs.now (c.args.number + 1) shares ps) (sym c.in_ok-push.ensures.items) stay

pub returns-in_err-put-in-Route-clause-grown : goal.returns-in_err-put-in-Route-clause-grown
returns-in_err-put-in-Route-clause-grown c =
    subst (λ (rs : List PricedRoute). IsGrown c.args.inst.now c.args.pool.now rs) (sym c.in_err-put-in-Route.ensures.unchanged) (grown_same c.args.inst.now c.args.pool.now)

pub returns-in_err-push-in-Route-clause-grown : goal.returns-in_err-push-in-Route-clause-grown
returns-in_err-push-in-Route-clause-grown c =
    grown_put c.args.inst.now c.deref-in-Route.result.now c.in_ok-pooled-in-Route.pooled.stops c.args.pool.now c.put.new.self c.in_ok-put-in-Route.ensures.put

pub returns-in_err-push-in-Route-2-clause-grown : goal.returns-in_err-push-in-Route-2-clause-grown
returns-in_err-push-in-Route-2-clause-grown c =
    grown_put c.args.inst.now c.deref-in-Route.result.now c.in_ok-pooled-in-Route.pooled.stops c.args.pool.now c.put.new.self c.in_ok-put-in-Route.ensures.put

pub returns-in_ok-push-in-Route-2-clause-grown : goal.returns-in_ok-push-in-Route-2-clause-grown
returns-in_ok-push-in-Route-2-clause-grown c =
    grown_put c.args.inst.now c.deref-in-Route.result.now c.in_ok-pooled-in-Route.pooled.stops c.args.pool.now c.put.new.self c.in_ok-put-in-Route.ensures.put

pub returns-in_ok-push-in-Route-2-clause-chains : goal.returns-in_ok-push-in-Route-2-clause-chains
returns-in_ok-push-in-Route-2-clause-chains c =
    let g = c.args.inst.now in
    let p = c.args.pairs.now in
    let node = c.args.node in
    let shares = c.args.self.now.shares.items in
    let prices = c.args.self.now.prices.items in
    let x : Share = record { share = 1; plan = c.in-Route.plan } in
    let test : is_served node shares ≡ false = ap (is_served node) (sym c.deref.ensures.value) ∙ sym c.is_served.ensures ∙ c.if-is_served.false in
    let none = (served_tells g node c.requires.customer shares).none test in
    let through : IsChainThrough g p node (chain.Route c.in-Route.order c.in-Route.plan) = subst (IsChainThrough g p node) c.in-Route.is c.in_ok-section.ensures in
    let here : 1 ≤ times_in (customers_of g c.in-Route.plan.stops) node = subst (λ (xs : List ℕ). 1 ≤ times_in xs node) (sym through.1) through.2 in
    let small : Fits w64 c.full_time.result = search rules in
    let grow = chains_grow g p c.args.number node shares prices c.requires.number c.requires.customer c.requires.chains c.requires.decided c.requires.pairs x none here through.0 c.full_time.result c.full_time.ensures (omega (arith, small)) refl in
    let pushed : AreChains g p (c.args.number + 1) c.push-in-Route-2.new.self.items (prices ++ pos c.full_time.result ∷ []) = subst (λ (xs : List Share). AreChains g p (c.args.number + 1) xs (prices ++ pos c.full_time.result ∷ [])) (sym c.in_ok-push-in-Route-2.ensures.items) grow in
    let from : c.from.result ≡ pos c.full_time.result = c.from.ensures in
    let fits : FitsSigned w128 c.from.result = search rules in
    let whole : to_z w128 (of_z w128 c.from.result) ≡ c.from.result = omega (arith, ints) in
    let priced : c.push-in-Route.new.self.items ≡ prices ++ pos c.full_time.result ∷ [] = c.in_ok-push-in-Route.ensures.items ∙ ap (λ (z : ℤ). prices ++ z ∷ []) (whole ∙ from) in
    subst (λ (ps : List ℤ). AreChains g p (c.args.number + 1) c.push-in-Route-2.new.self.items ps) (sym priced) pushed

pub returns-in-None-clause-chains : goal.returns-in-None-clause-chains
returns-in-None-clause-chains = grind (arith, common_steps)

pub full_time-requires : goal.full_time-requires
full_time-requires = grind (arith, common_steps)

pub returns-then-is_served-clause-grown : goal.returns-then-is_served-clause-grown
returns-then-is_served-clause-grown = grind (arith, common_steps)

pub returns-in-None-clause-grown : goal.returns-in-None-clause-grown
returns-in-None-clause-grown = grind (arith, common_steps)
