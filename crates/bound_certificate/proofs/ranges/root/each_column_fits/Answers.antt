use Rattle.certificate_parts.specs.Ranges.{ColumnFits}
use Rattle.certificate_parts.proofs.EachItem.{all_hold, item_holds}
use Rattle.bound_certificate.proofs.ranges.root.each_column_fits.Goals as goal

pub loop-column-preserved : goal.loop-column-preserved
loop-column-preserved c =
    item_holds (ColumnFits) c.args.columns.now c.loop-column.column-index c.column-item.result c.loop-column-test.true c.loop-column.invariant c.column-item.is (c.column_fits.ensures.0 c.if-not-column_fits.false)

pub returns : goal.returns
returns c = all_hold (ColumnFits) c.args.columns.now c.loop-column.column-index c.loop-column.auto.column-index-end c.loop-column-test.false c.loop-column.invariant
