use Rattle.std.proofs.Common.{refl}
use Rattle.certificate_parts.proofs.EachItem.{all_hold, item_holds}
use Rattle.bound_certificate.specs.Kept.{IsKept}
use Rattle.ev_fleet.proofs.kept.know_sections.Goals as goal

pub loop-section-preserved : goal.loop-section-preserved
loop-section-preserved c =
    item_holds IsKept c.args.sections.now c.loop-section.section-index c.section-item.result c.loop-section-test.true c.loop-section.invariant c.section-item.is c.know_section.ensures

pub returns : goal.returns
returns c = (all_hold IsKept c.args.sections.now c.loop-section.section-index c.loop-section.auto.section-index-end c.loop-section-test.false c.loop-section.invariant).0 refl
