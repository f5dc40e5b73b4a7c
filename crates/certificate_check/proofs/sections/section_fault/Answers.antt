use Rattle.std.proofs.Common.{subst}
use Rattle.fleet_model.specs.ClosedList.{IsClosed}
use Rattle.bound_certificate.specs.Meaning.{priced_section}
use Rattle.certificate_check.specs.Firsts.{IsSectionFault, Tells}
use Rattle.certificate_check.proofs.Passed.{passed_all, passed_more}
use Rattle.certificate_check.proofs.sections.section_fault.Goals as goal

pub loop-number-preserved : goal.loop-number-preserved
loop-number-preserved c =
    let g = c.args.inst.now in
    let s = c.index-sections-number.result in
    let closed : IsClosed g (priced_section s) = subst (Tells (IsClosed g) (IsSectionFault g) c.loop-number.number (priced_section s)) c.in_default.is c.in_ok-fault.ensures in
    passed_more priced_section (IsClosed g) c.args.sections.now c.loop-number.number s c.loop-number-test.true c.index-sections-number.is closed c.loop-number.invariant

pub returns : goal.returns
returns c = passed_all priced_section (IsClosed c.args.inst.now) c.args.sections.now c.loop-number.number c.loop-number-test.false c.loop-number.invariant
