use Rattle.std.proofs.Common.{◌≡◌, ◌∙◌, List, ℕ, ap, length, subst, sym}
use Rattle.std.specs.List.{All}
use Rattle.std.specs.Prelude.{ℤ}
use Rattle.fleet_model.specs.Places.{customer_count}
use Rattle.fleet_model.proofs.Numbers.{counted}
use Rattle.bound_certificate.specs.Meaning.{priced_section}
use Rattle.bound_certificate.specs.declared.certificate.Share.{Share}
use Rattle.certificate_check.specs.Routes.{IsRouteAmong}
use Rattle.certificate_check.specs.Shares.{IsSharedRoute, TellsCover}
use Rattle.certificate_check.specs.declared.cover.SharedRoute.{SharedRoute}
use Rattle.certificate_check.proofs.Even.{exact_by, shared_listed}
use Rattle.certificate_check.proofs.Zips.{zip_right}
use Rattle.certificate_check.proofs.shares.is_exact.Goals as goal

pub cover_exactly-requires-clause-routes : goal.cover_exactly-requires-clause-routes
cover_exactly-requires-clause-routes c =
    let g = c.args.inst.now in
    let shared = shared_listed g c.args.shares.now (λ v. v.items) c.in_ok-routes.field-0 c.in-Some.routes c.in-Some.is c.in_ok-routes.ensures in
    let among = zip_right (λ (x : Share) (y : SharedRoute). IsSharedRoute g x.share x.plan.stops y) (λ (y : SharedRoute). IsRouteAmong (customer_count g) y.route) (λ x y is. is.among) c.args.shares.now c.in-Some.routes.items shared in
    let count : length c.customers-customers.result.now ≡ customer_count g = ap length c.customers-customers.ensures.value ∙ counted g in
    subst (λ (n : ℕ). All (λ (y : SharedRoute). IsRouteAmong n y.route) c.as_slice.result.now) (sym count)
    (subst (λ (ys : List SharedRoute). All (λ (y : SharedRoute). IsRouteAmong (customer_count g) y.route) ys) (sym c.as_slice.ensures.value) among)

pub returns : goal.returns
returns c =
    let g = c.args.inst.now in
    let s = c.args.section.now in
    let b = c.cover_exactly.result in
    let shared = shared_listed g c.args.shares.now (λ v. v.items) c.in_ok-routes.field-0 c.in-Some.routes c.in-Some.is c.in_ok-routes.ensures in
    let count : length c.customers-customers.result.now ≡ customer_count g = ap length c.customers-customers.ensures.value ∙ counted g in
    let priced = subst (λ (ps : List ℤ). TellsCover (length c.customers-customers.result.now) s.weight ps c.args.over c.as_slice.result.now b) c.as_slice-prices.ensures c.cover_exactly.ensures in
    let listed = subst (λ (ys : List SharedRoute). TellsCover (length c.customers-customers.result.now) s.weight s.prices c.args.over ys b) c.as_slice.ensures.value priced in
    exact_by g (priced_section s) c.args.over c.args.shares.now c.in-Some.routes.items b c.requires.shares shared
    (subst (λ (n : ℕ). TellsCover n s.weight s.prices c.args.over c.in-Some.routes.items b) count listed)
