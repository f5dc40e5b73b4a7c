use Rattle.std.proofs.Common.{◌∙◌, ap, length, subst, sym}
use Rattle.std.specs.List.{All}
use Rattle.bound_certificate.specs.Ranges.{IsPrice, LabelFits}
use Rattle.certificate_check.proofs.SectionSteps.{closed_told, verdict_told}
use Rattle.certificate_check.proofs.sections.fault_in.Goals as goal

pub check_labels-requires-clause-one_price : goal.check_labels-requires-clause-one_price
check_labels-requires-clause-one_price c = ap length c.as_slice-prices.ensures ∙ c.requires.fits.one_price

pub check_labels-requires-clause-small_prices : goal.check_labels-requires-clause-small_prices
check_labels-requires-clause-small_prices c = subst (All IsPrice) (sym c.as_slice-prices.ensures) c.requires.fits.prices

pub check_labels-requires-clause-labels : goal.check_labels-requires-clause-labels
check_labels-requires-clause-labels c = subst (All (LabelFits c.args.inst.now)) (sym c.as_slice-labels.ensures) c.requires.fits.labels

pub returns-in-Ok : goal.returns-in-Ok
returns-in-Ok c =
    closed_told c.args.inst.now c.args.section.now c.as_slice-prices.result.now c.as_slice-labels.result.now c.as_slice-prices.ensures c.as_slice-labels.ensures c.in-Ok.ensures.closed

pub returns-in-Err : goal.returns-in-Err
returns-in-Err c =
    verdict_told c.args.inst.now c.args.number c.args.section.now c.as_slice-prices.result.now c.as_slice-labels.result.now c.as_slice-prices.ensures c.as_slice-labels.ensures
    c.in-Err.fault c.told.result c.told.ensures.told c.told.ensures.some c.in-Err.ensures.broken
