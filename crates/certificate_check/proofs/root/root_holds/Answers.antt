use Rattle.std.proofs.Common.{List, refl, subst, sym, arith}
use Rattle.std.proofs.lemmas.Grind.{common_steps}
use Rattle.std.specs.Prelude.{IfOk}
use Rattle.route_plan.specs.declared.plan.RoutePlan.{RoutePlan}
use Rattle.bound_certificate.specs.Meaning.{priced_section, route_shares}
use Rattle.certificate_parts.specs.declared.entry.BasisEntry.{BasisEntry}
use Rattle.bound_certificate.specs.declared.certificate.Root.{Root}
use Rattle.bound_certificate.specs.declared.certificate.Share.{Share}
use Rattle.certificate_check.specs.Shares.{TellsExact}
use Rattle.certificate_check.specs.Bounds.{TellsRoot}
use Rattle.certificate_check.specs.Columns.{TellsWide}
use Rattle.certificate_check.proofs.Roots.{exact_told, none_told, wide_told}
use Rattle.certificate_check.proofs.root.root_holds.Goals as goal

pub returns-in-Wide : goal.returns-in-Wide
returns-in-Wide c =
    let g = c.args.inst.now in
    let s = priced_section c.args.section.now in
    let columns = subst (λ (ps : List RoutePlan). IfOk c.is_wide.result (TellsWide g ps c.as_slice-in-Wide-2.result.now)) c.as_slice-in-Wide.ensures c.is_wide.ensures in
    let both = subst (λ (es : List BasisEntry). IfOk c.is_wide.result (TellsWide g c.in-Wide.columns es)) c.as_slice-in-Wide-2.ensures columns in
    subst (λ (r : Root). IfOk c.is_wide.result (TellsRoot g s r)) (sym c.in-Wide.is)
    (wide_told g s c.in-Wide.columns c.in-Wide.basis c.is_wide.result (λ a b. c.within.ensures.0 c.if-not-within.false a b (c.new.ensures.pairs a b)) both)

pub returns-in-None : goal.returns-in-None
returns-in-None c =
    let g = c.args.inst.now in
    let s = priced_section c.args.section.now in
    let bound = c.bound_of.ensures s (record { same_weight = refl; same_prices = sym c.as_slice.ensures }) in
    subst (λ (r : Root). TellsRoot g s r c.is_none.result) (sym c.in-None.is)
    (none_told g s c.bound_of.result c.is_none.result c.is_none.ensures (λ a b. c.within.ensures.0 c.if-not-within.false a b (c.new.ensures.pairs a b)) bound)

pub returns-in-Exact : goal.returns-in-Exact
returns-in-Exact c =
    let g = c.args.inst.now in
    let s = priced_section c.args.section.now in
    let exact = subst (λ (xs : List Share). IfOk c.is_exact.result (TellsExact g s c.in-Exact.over (route_shares xs))) c.as_slice-in-Exact.ensures c.is_exact.ensures in
    subst (λ (r : Root). IfOk c.is_exact.result (TellsRoot g s r)) (sym c.in-Exact.is)
    (exact_told g s c.in-Exact.over c.in-Exact.shares c.is_exact.result (λ a b. c.within.ensures.0 c.if-not-within.false a b (c.new.ensures.pairs a b)) exact)

pub is_wide-requires-clause-basis : goal.is_wide-requires-clause-basis
is_wide-requires-clause-basis = grind (arith, common_steps)

pub returns-then-not-within : goal.returns-then-not-within
returns-then-not-within = grind (arith, common_steps)
