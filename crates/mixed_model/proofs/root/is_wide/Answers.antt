use Rattle.std.proofs.Common.{◌≡◌, ◌∙◌, ℕ, ap, length, subst, sym}
use Rattle.std.proofs.lemmas.Slice.Zip.{AllZip-long}
use Rattle.std.specs.List.{AllZip}
use Rattle.certificate_parts.specs.Ranges.{BasisFits}
use Rattle.instance_reader.specs.Instance.{customer_nodes}
use Rattle.mixed_model.specs.Kinds.{first_of}
use Rattle.mixed_model.specs.Tellings.{IsListedIn}
use Rattle.mixed_model.proofs.KindRoutes.{counted_first, few_first}
use Rattle.mixed_model.proofs.Roots.{columns_listed, columns_none, wide_by}
use Rattle.mixed_model.proofs.root.is_wide.Goals as goal

pub is_wide_basis-requires-clause-basis : goal.is_wide_basis-requires-clause-basis
is_wide_basis-requires-clause-basis c =
    let kinds = c.args.kinds.now in
    let zip = columns_listed kinds c.args.columns.now (λ v. v.items) c.in_ok-routes.field-0 c.in-Some.routes c.in-Some.is c.in_ok-routes.ensures in
    let many : length c.as_slice.result.now ≡ length c.args.columns.now = ap length c.as_slice.ensures.value ∙ AllZip-long (IsListedIn kinds) c.args.columns.now c.in-Some.routes.items zip in
    let first = few_first kinds c.requires.kinds c.index-kinds-0.result c.index-kinds-0.is c.customers.result.now c.customers.ensures.value in
    subst (λ (n : ℕ). BasisFits n (length c.as_slice.result.now) c.args.basis.now) (sym first)
    (subst (λ (k : ℕ). BasisFits (length (customer_nodes (first_of kinds))) k c.args.basis.now) (sym many) c.requires.basis)

pub returns : goal.returns
returns c =
    let kinds = c.args.kinds.now in
    let zip = columns_listed kinds c.args.columns.now (λ v. v.items) c.in_ok-routes.field-0 c.in-Some.routes c.in-Some.is c.in_ok-routes.ensures in
    let count = counted_first kinds c.requires.kinds c.index-kinds-0.result c.index-kinds-0.is c.customers.result.now c.customers.ensures.value in
    wide_by kinds c.args.columns.now c.args.basis.now c.as_slice.result.now (subst (AllZip (IsListedIn kinds) c.args.columns.now) (sym c.as_slice.ensures.value) zip)
    (length c.customers.result.now) c.is_wide_basis.result count c.is_wide_basis.ensures

pub returns-in_default : goal.returns-in_default
returns-in_default c = λ wide. columns_none c.args.kinds.now c.args.columns.now (λ v. v.items) c.in_ok-routes.field-0 c.in_default.is c.in_ok-routes.ensures wide.routes
