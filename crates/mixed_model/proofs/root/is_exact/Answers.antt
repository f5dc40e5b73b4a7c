use Rattle.std.proofs.Common.{List, ℕ, length, subst, sym}
use Rattle.std.specs.List.{All}
use Rattle.std.specs.Prelude.{ℤ}
use Rattle.fleet_model.specs.Places.{customer_count}
use Rattle.certificate_check.specs.Routes.{IsRouteAmong}
use Rattle.certificate_check.specs.Shares.{TellsCover}
use Rattle.certificate_check.specs.declared.cover.SharedRoute.{SharedRoute}
use Rattle.certificate_check.proofs.Zips.{zip_right}
use Rattle.mixed_model.specs.Kinds.{first_of}
use Rattle.mixed_model.specs.Tellings.{IsSharedIn}
use Rattle.mixed_model.proofs.KindRoutes.{counted_first}
use Rattle.mixed_model.proofs.Roots.{exact_by, shares_listed, shares_none}
use Rattle.mixed_model.proofs.root.is_exact.Goals as goal

pub cover_exactly-requires-clause-routes : goal.cover_exactly-requires-clause-routes
cover_exactly-requires-clause-routes c =
    let kinds = c.args.kinds.now in
    let n = customer_count (first_of kinds) in
    let zip = shares_listed kinds c.args.shares.now (λ v. v.items) c.in_ok-routes.field-0 c.in-Some.routes c.in-Some.is c.in_ok-routes.ensures in
    let among = zip_right (IsSharedIn kinds) (λ (y : SharedRoute). IsRouteAmong n y.route) (λ x y is. is.listed.among) c.args.shares.now c.in-Some.routes.items zip in
    let count = counted_first kinds c.requires.kinds c.index-kinds-0.result c.index-kinds-0.is c.customers-customers.result.now c.customers-customers.ensures.value in
    subst (λ (k : ℕ). All (λ (y : SharedRoute). IsRouteAmong k y.route) c.as_slice-2.result.now) (sym count)
    (subst (λ (ys : List SharedRoute). All (λ (y : SharedRoute). IsRouteAmong n y.route) ys) (sym c.as_slice-2.ensures.value) among)

pub returns : goal.returns
returns c =
    let kinds = c.args.kinds.now in
    let p = c.args.p.now in
    let b = c.cover_exactly.result in
    let zip = shares_listed kinds c.args.shares.now (λ v. v.items) c.in_ok-routes.field-0 c.in-Some.routes c.in-Some.is c.in_ok-routes.ensures in
    let count = counted_first kinds c.requires.kinds c.index-kinds-0.result c.index-kinds-0.is c.customers-customers.result.now c.customers-customers.ensures.value in
    let priced = subst (λ (ps : List ℤ). TellsCover (length c.customers-customers.result.now) p.weight ps c.args.over c.as_slice-2.result.now b) c.as_slice.ensures c.cover_exactly.ensures in
    let listed = subst (λ (ys : List SharedRoute). TellsCover (length c.customers-customers.result.now) p.weight p.prices c.args.over ys b) c.as_slice-2.ensures.value priced in
    exact_by kinds c.requires.kinds p c.args.over c.args.shares.now c.in-Some.routes.items c.requires.shares zip b
    (subst (λ (n : ℕ). TellsCover n p.weight p.prices c.args.over c.in-Some.routes.items b) count listed)

pub returns-in_default : goal.returns-in_default
returns-in_default c = λ exact. shares_none c.args.kinds.now c.args.shares.now (λ v. v.items) c.in_ok-routes.field-0 c.in_default.is c.in_ok-routes.ensures exact.cover.routes
