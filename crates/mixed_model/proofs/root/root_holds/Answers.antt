use Rattle.std.proofs.Common.{List, refl, subst, sym, arith}
use Rattle.std.proofs.lemmas.Grind.{common_steps}
use Rattle.std.specs.Prelude.{IfOk}
use Rattle.certificate_parts.specs.declared.entry.BasisEntry.{BasisEntry}
use Rattle.mixed_model.specs.Meaning.{section_of}
use Rattle.mixed_model.specs.declared.proof.MixedRoot.{MixedRoot}
use Rattle.mixed_model.specs.declared.proof.MixedRoute.{MixedRoute}
use Rattle.mixed_model.specs.declared.proof.MixedShare.{MixedShare}
use Rattle.mixed_model.specs.Tellings.{TellsExact, TellsRoot, TellsWide}
use Rattle.mixed_model.proofs.Roots.{exact_told, none_told, wide_told}
use Rattle.mixed_model.proofs.root.root_holds.Goals as goal

pub returns-in-None : goal.returns-in-None
returns-in-None c =
    let kinds = c.args.kinds.now in
    let p = c.args.p.now in
    let bound = c.bound_of.ensures (section_of p 0) (record { same_weight = refl; same_prices = sym c.as_slice.ensures }) in
    subst (λ (r : MixedRoot). TellsRoot kinds p r c.is_none.result) (sym c.in-None.is) (none_told kinds p c.bound_of.result c.is_none.result c.is_none.ensures bound)

pub returns-in-Exact : goal.returns-in-Exact
returns-in-Exact c =
    let kinds = c.args.kinds.now in
    let p = c.args.p.now in
    let exact = subst (λ (xs : List MixedShare). IfOk c.is_exact.result (TellsExact kinds p c.in-Exact.over xs)) c.as_slice-in-Exact.ensures c.is_exact.ensures in
    subst (λ (r : MixedRoot). IfOk c.is_exact.result (TellsRoot kinds p r)) (sym c.in-Exact.is) (exact_told kinds p c.in-Exact.over c.in-Exact.shares c.is_exact.result exact)

pub returns-in-Wide : goal.returns-in-Wide
returns-in-Wide c =
    let kinds = c.args.kinds.now in
    let p = c.args.p.now in
    let columns = subst (λ (rs : List MixedRoute). IfOk c.is_wide.result (TellsWide kinds rs c.as_slice-in-Wide-2.result.now)) c.as_slice-in-Wide.ensures c.is_wide.ensures in
    let both = subst (λ (es : List BasisEntry). IfOk c.is_wide.result (TellsWide kinds c.in-Wide.columns es)) c.as_slice-in-Wide-2.ensures columns in
    subst (λ (r : MixedRoot). IfOk c.is_wide.result (TellsRoot kinds p r)) (sym c.in-Wide.is) (wide_told kinds p c.in-Wide.columns c.in-Wide.basis c.is_wide.result both)

pub is_wide-requires-clause-basis : goal.is_wide-requires-clause-basis
is_wide-requires-clause-basis = grind (arith, common_steps)
