use Rattle.std.proofs.Common.{◌≡◌, ◌∷◌, [], List, None, Some, get_or, subst, arith}
use Rattle.std.proofs.lemmas.Grind.{common_steps}
use Rattle.customer_sets.specs.Pairs.{any_pair}
use Rattle.fleet_model.specs.ClosedList.{IsClosed}
use Rattle.bound_certificate.specs.Meaning.{priced_section, priced_sections}
use Rattle.bound_certificate.specs.declared.certificate.Section.{Section}
use Rattle.certificate_check.specs.Bounds.{TellsRoot}
use Rattle.certificate_check.specs.Firsts.{IsLeafFault, IsSectionFault, LeafHolds, leaves_along, TellsFirst}
use Rattle.certificate_check.proofs.Passed.{there}
use Rattle.certificate_check.proofs.Verdicts.{accepted, leaf_verdict, root_broken, section_verdict}
use Rattle.certificate_check.proofs.judge.verdict_on.Goals as goal

pub returns-in-Some : goal.returns-in-Some
returns-in-Some c =
    let g = c.args.inst.now in
    let cert = c.args.cert.now in
    let told = subst (TellsFirst (IsClosed g) (IsSectionFault g) (priced_sections c.as_slice-sections.result.now)) c.in-Some.is c.in_ok-fault.ensures in
    section_verdict g cert c.in-Some.fault (subst (λ (ss : List Section). TellsFirst (IsClosed g) (IsSectionFault g) (priced_sections ss) (Some c.in-Some.fault)) c.as_slice-sections.ensures told)

pub returns-in-Some-2 : goal.returns-in-Some-2
returns-in-Some-2 c =
    let g = c.args.inst.now in
    let cert = c.args.cert.now in
    let told = subst (TellsFirst (IsClosed g) (IsSectionFault g) (priced_sections c.as_slice-sections.result.now)) c.in_default.is c.in_ok-fault.ensures in
    let closed = subst (λ (ss : List Section). TellsFirst (IsClosed g) (IsSectionFault g) (priced_sections ss) None) c.as_slice-sections.ensures told in
    let first = subst (TellsFirst (LeafHolds (priced_sections cert.sections) cert.bound) (IsLeafFault (priced_sections cert.sections) cert.bound) (leaves_along (any_pair ∷ []) cert.tree)) c.in-Some-2.is c.in_ok-fault-2.ensures in
    leaf_verdict g cert c.requires.fits c.in-Some-2.fault closed first

pub returns-then-branch : goal.returns-then-branch
returns-then-branch c =
    let g = c.args.inst.now in
    let cert = c.args.cert.now in
    let s = c.index-sections-0.result in
    let told = subst (TellsFirst (IsClosed g) (IsSectionFault g) (priced_sections c.as_slice-sections.result.now)) c.in_default.is c.in_ok-fault.ensures in
    let closed = subst (λ (ss : List Section). TellsFirst (IsClosed g) (IsSectionFault g) (priced_sections ss) None) c.as_slice-sections.ensures told in
    let leaves = subst (TellsFirst (LeafHolds (priced_sections cert.sections) cert.bound) (IsLeafFault (priced_sections cert.sections) cert.bound) (leaves_along (any_pair ∷ []) cert.tree)) c.in_default-2.is c.in_ok-fault-2.ensures in
    let at = there priced_section cert.sections 0 s c.requires.fits.some (subst (λ (ss : List Section). s ≡ get_or ss 0 s) c.as_slice-sections.ensures c.index-sections-0.is) in
    accepted g cert c.requires.fits (priced_section s) closed leaves at (subst (TellsRoot g (priced_section s) cert.root) c.if-branch.true c.in_ok-root_holds.ensures)

pub returns-else-branch : goal.returns-else-branch
returns-else-branch c =
    let g = c.args.inst.now in
    let cert = c.args.cert.now in
    let s = c.index-sections-0.result in
    let told = subst (TellsFirst (IsClosed g) (IsSectionFault g) (priced_sections c.as_slice-sections.result.now)) c.in_default.is c.in_ok-fault.ensures in
    let closed = subst (λ (ss : List Section). TellsFirst (IsClosed g) (IsSectionFault g) (priced_sections ss) None) c.as_slice-sections.ensures told in
    let leaves = subst (TellsFirst (LeafHolds (priced_sections cert.sections) cert.bound) (IsLeafFault (priced_sections cert.sections) cert.bound) (leaves_along (any_pair ∷ []) cert.tree)) c.in_default-2.is c.in_ok-fault-2.ensures in
    let at = there priced_section cert.sections 0 s c.requires.fits.some (subst (λ (ss : List Section). s ≡ get_or ss 0 s) c.as_slice-sections.ensures c.index-sections-0.is) in
    root_broken g cert (priced_section s) closed leaves at (subst (TellsRoot g (priced_section s) cert.root) c.if-branch.false c.in_ok-root_holds.ensures)

pub root_holds-requires-clause-fits : goal.root_holds-requires-clause-fits
root_holds-requires-clause-fits = grind (arith, common_steps)
