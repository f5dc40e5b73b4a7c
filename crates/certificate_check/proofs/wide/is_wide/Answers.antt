use Rattle.std.proofs.Common.{◌≡◌, ◌∙◌, ℕ, ap, length, subst, sym}
use Rattle.std.proofs.lemmas.Slice.Zip.{AllZip-long}
use Rattle.fleet_model.proofs.Numbers.{counted}
use Rattle.instance_reader.specs.Instance.{customer_nodes}
use Rattle.route_plan.specs.declared.plan.RoutePlan.{RoutePlan}
use Rattle.bound_certificate.specs.Ranges.{BasisFits}
use Rattle.master_table.specs.declared.listed.ListedRoute.{ListedRoute}
use Rattle.certificate_check.specs.Columns.{AreListed}
use Rattle.certificate_check.specs.Routes.{IsListedRoute}
use Rattle.certificate_check.proofs.Columns.{columns_listed, told_wide}
use Rattle.certificate_check.proofs.wide.is_wide.Goals as goal

pub is_wide_basis-requires-clause-basis : goal.is_wide_basis-requires-clause-basis
is_wide_basis-requires-clause-basis c =
    let g = c.args.inst.now in
    let listed = columns_listed g c.args.columns.now (λ v. v.items) c.in_ok-routes.field-0 c.in-Some.routes c.in-Some.is c.in_ok-routes.ensures in
    let many : length c.as_slice.result.now ≡ length c.args.columns.now =
    ap length c.as_slice.ensures.value ∙ AllZip-long (λ (p : RoutePlan) (r : ListedRoute). IsListedRoute g p.stops r) c.args.columns.now c.in-Some.routes.items listed in
    subst (λ (n : ℕ). BasisFits n (length c.as_slice.result.now) c.args.basis.now) (sym (ap length c.customers.ensures.value))
    (subst (λ (k : ℕ). BasisFits (length (customer_nodes g)) k c.args.basis.now) (sym many) c.requires.basis)

pub returns : goal.returns
returns c =
    let g = c.args.inst.now in
    let listed = columns_listed g c.args.columns.now (λ v. v.items) c.in_ok-routes.field-0 c.in-Some.routes c.in-Some.is c.in_ok-routes.ensures in
    told_wide g c.args.columns.now c.args.basis.now c.as_slice.result.now (subst (AreListed g c.args.columns.now) (sym c.as_slice.ensures.value) listed)
    (length c.customers.result.now) c.is_wide_basis.result (ap length c.customers.ensures.value ∙ counted g) c.is_wide_basis.ensures
