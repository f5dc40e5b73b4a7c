use Rattle.std.proofs.Common.{◌≡◌, ◌∙◌, ℕ, ap, subst, sym, List, Some, None}
use Rattle.std.specs.Map.{lookup}
use Rattle.std.specs.Option.{option_copied_mut}
use Rattle.indexmap.specs.IndexMap.{insert_entry}
use Rattle.pricing.specs.declared.priced.PricedRoute.{PricedRoute}
use Rattle.route_pool.specs.Pool.{AreApart, IsColumn, IsPool, IsPut, orders_after, orders_of}
use Rattle.route_pool.specs.declared.pooled.Pooled.{Pooled}
use Rattle.route_pool.proofs.PutPlans.{apart_keys, at_order, column_found, Entries, orders_new, orders_replaced, pool_pushed, pool_replaced, put_new, put_replaced, routes_of, same_entries, same_order}
use Rattle.route_pool.proofs.pool.ColumnPool.put.Goals as goal

-- ---- an order that the pool has
pub keep_faster-requires-clause-before : goal.keep_faster-requires-clause-before
keep_faster-requires-clause-before c =
    let es = c.self.inside.routes.entries in
    let found : lookup (at_order c.args.order.now) es ≡ Some c.in-Some.before.now = sym c.get_mut.ensures.value ∙ ap option_copied_mut c.in-Some.is in
    let pool = subst (λ (rs : List PricedRoute). IsPool c.args.inst.now rs) (sym c.self.view_is) c.requires.pool in
    (column_found c.args.inst.now c.args.order.now es c.in-Some.before.now pool found).route.feasible

pub returns-in-Some-clause-put : goal.returns-in-Some-clause-put
returns-in-Some-clause-put c =
    let es = c.self.inside.routes.entries in
    let new = c.get_mut.follows.lender c.keep_faster.new.before in
    let found : lookup (at_order c.args.order.now) es ≡ Some c.in-Some.before.now = sym c.get_mut.ensures.value ∙ ap option_copied_mut c.in-Some.is in
    let set = c.get_mut.follows.holds c.keep_faster.new.before in
    let put = put_replaced c.args.order.now c.keep_faster.new.before c.args.inst.now c.args.plan.stops es new.entries c.in-Some.before.now found c.keep_faster.ensures set.0 in
    subst (λ (os : List PricedRoute). IsPut c.args.inst.now c.args.order.now c.args.plan.stops os (routes_of new.entries)) c.self.view_is put

pub returns-in-Some-clause-pool : goal.returns-in-Some-clause-pool
returns-in-Some-clause-pool c =
    let es = c.self.inside.routes.entries in
    let new = c.get_mut.follows.lender c.keep_faster.new.before in
    let found : lookup (at_order c.args.order.now) es ≡ Some c.in-Some.before.now = sym c.get_mut.ensures.value ∙ ap option_copied_mut c.in-Some.is in
    let set = c.get_mut.follows.holds c.keep_faster.new.before in
    let pool = subst (λ (rs : List PricedRoute). IsPool c.args.inst.now rs) (sym c.self.view_is) c.requires.pool in
    pool_replaced c.args.inst.now c.args.order.now c.args.plan.stops es new.entries c.in-Some.before.now c.keep_faster.new.before found c.keep_faster.ensures set.0 c.requires.column pool

pub returns-in-Some-clause-apart : goal.returns-in-Some-clause-apart
returns-in-Some-clause-apart c =
    let set = c.get_mut.follows.holds c.keep_faster.new.before in
    apart_keys (c.get_mut.follows.lender c.keep_faster.new.before).entries set.4

pub returns-in-Some-clause-first_seen : goal.returns-in-Some-clause-first_seen
returns-in-Some-clause-first_seen c =
    let es = c.self.inside.routes.entries in
    let new = c.get_mut.follows.lender c.keep_faster.new.before in
    let found : lookup (at_order c.args.order.now) es ≡ Some c.in-Some.before.now = sym c.get_mut.ensures.value ∙ ap option_copied_mut c.in-Some.is in
    let set = c.get_mut.follows.holds c.keep_faster.new.before in
    let orders = orders_replaced c.args.order.now es new.entries c.in-Some.before.now c.keep_faster.new.before found set.0 in
    subst (λ (os : List PricedRoute). orders_of (routes_of new.entries) ≡ orders_after os c.args.order.now) c.self.view_is orders

-- ---- an order that the pool hasn't
pub returns-in_err-order-clause-apart : goal.returns-in_err-order-clause-apart
returns-in_err-order-clause-apart c =
    let same = same_entries c.get_mut.follows.lender-at-none c.self.inside.routes c.get_mut.follows.holds-at-none in
    subst (λ (es : Entries). AreApart (routes_of es)) (sym same) (apart_keys c.self.inside.routes.entries c.get_mut.ensures.unique)

pub returns-in_err-insert-clause-apart : goal.returns-in_err-insert-clause-apart
returns-in_err-insert-clause-apart c = apart_keys c.insert.new.self.entries c.insert.ensures.unique

pub returns-clause-put : goal.returns-clause-put
returns-clause-put c =
    let es = c.self.inside.routes.entries in
    let pooled : Pooled = record { plan = c.args.plan; time = c.full_time-time.result } in
    let k = c.in_ok-order.order in
    let missed : lookup (at_order c.args.order.now) es ≡ None = sym c.get_mut.ensures.value ∙ ap option_copied_mut c.in_default.is in
    let none : lookup (same_order k) es ≡ None = ap (λ (o : List ℕ). lookup (at_order o) es) c.in_ok-order.ensures ∙ missed in
    let same = same_entries c.get_mut.follows.lender-at-none c.self.inside.routes c.get_mut.follows.holds-at-none in
    let inserted = c.in_ok-insert.ensures.entries ∙ ap (λ (fs : Entries). insert_entry same_order fs k pooled) same in
    let put = put_new c.args.inst.now c.args.order.now es c.insert.new.self.entries k pooled c.in_ok-order.ensures none inserted in
    subst (λ (os : List PricedRoute). IsPut c.args.inst.now c.args.order.now c.args.plan.stops os (routes_of c.insert.new.self.entries)) c.self.view_is put

pub returns-clause-pool : goal.returns-clause-pool
returns-clause-pool c =
    let es = c.self.inside.routes.entries in
    let pooled : Pooled = record { plan = c.args.plan; time = c.full_time-time.result } in
    let k = c.in_ok-order.order in
    let missed : lookup (at_order c.args.order.now) es ≡ None = sym c.get_mut.ensures.value ∙ ap option_copied_mut c.in_default.is in
    let none : lookup (same_order k) es ≡ None = ap (λ (o : List ℕ). lookup (at_order o) es) c.in_ok-order.ensures ∙ missed in
    let same = same_entries c.get_mut.follows.lender-at-none c.self.inside.routes c.get_mut.follows.holds-at-none in
    let inserted = c.in_ok-insert.ensures.entries ∙ ap (λ (fs : Entries). insert_entry same_order fs k pooled) same in
    let column = subst (λ (o : List ℕ). IsColumn c.args.inst.now o c.args.plan.stops) (sym c.in_ok-order.ensures) c.requires.column in
    let pool = subst (λ (rs : List PricedRoute). IsPool c.args.inst.now rs) (sym c.self.view_is) c.requires.pool in
    pool_pushed c.args.inst.now es c.insert.new.self.entries k pooled none inserted column pool

pub returns-clause-apart : goal.returns-clause-apart
returns-clause-apart c = apart_keys c.insert.new.self.entries c.insert.ensures.unique

pub returns-clause-first_seen : goal.returns-clause-first_seen
returns-clause-first_seen c =
    let es = c.self.inside.routes.entries in
    let pooled : Pooled = record { plan = c.args.plan; time = c.full_time-time.result } in
    let k = c.in_ok-order.order in
    let missed : lookup (at_order c.args.order.now) es ≡ None = sym c.get_mut.ensures.value ∙ ap option_copied_mut c.in_default.is in
    let none : lookup (same_order k) es ≡ None = ap (λ (o : List ℕ). lookup (at_order o) es) c.in_ok-order.ensures ∙ missed in
    let same = same_entries c.get_mut.follows.lender-at-none c.self.inside.routes c.get_mut.follows.holds-at-none in
    let inserted = c.in_ok-insert.ensures.entries ∙ ap (λ (fs : Entries). insert_entry same_order fs k pooled) same in
    let orders = orders_new c.args.order.now es c.insert.new.self.entries k pooled c.in_ok-order.ensures none inserted in
    subst (λ (os : List PricedRoute). orders_of (routes_of c.insert.new.self.entries) ≡ orders_after os c.args.order.now) c.self.view_is orders
