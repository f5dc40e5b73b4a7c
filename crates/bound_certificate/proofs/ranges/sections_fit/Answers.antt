use Rattle.std.proofs.Common.{arith}
use Rattle.std.proofs.lemmas.Grind.{common_steps}
use Rattle.bound_certificate.specs.Ranges.{SectionFits}
use Rattle.certificate_parts.proofs.EachItem.{all_hold, item_holds}
use Rattle.bound_certificate.proofs.ranges.sections_fit.Goals as goal

pub loop-section-preserved : goal.loop-section-preserved
loop-section-preserved c =
    item_holds (SectionFits c.args.inst.now) c.args.sections.now c.loop-section.section-index c.section-item.result c.loop-section-test.true c.loop-section.invariant c.section-item.is (c.section_fits.ensures.0 c.if-not-section_fits.false)

pub returns : goal.returns
returns c = all_hold (SectionFits c.args.inst.now) c.args.sections.now c.loop-section.section-index c.loop-section.auto.section-index-end c.loop-section-test.false c.loop-section.invariant

pub returns-then-not-section_fits : goal.returns-then-not-section_fits
returns-then-not-section_fits = grind (arith, common_steps)
