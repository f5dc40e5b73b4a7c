use Rattle.std.proofs.Common.{arith}
use Rattle.std.proofs.lemmas.Grind.{common_steps}
use Rattle.std.proofs.lemmas.List.Elements.{All-more}
use Rattle.certificate_parts.specs.Ranges.{EntryFits}
use Rattle.certificate_parts.proofs.EachItem.{all_hold}
use Rattle.certificate_parts.proofs.ranges.basis.entries_fit.Goals as goal

pub loop-entry-preserved : goal.loop-entry-preserved
loop-entry-preserved c =
    All-more (EntryFits c.args.customers c.args.columns) c.args.basis.now c.loop-entry.entry-index _ c.loop-entry-test.true c.loop-entry.invariant (c.entry_fits.ensures.0 c.if-not-entry_fits.false)

pub returns : goal.returns
returns c = all_hold (EntryFits c.args.customers c.args.columns) c.args.basis.now c.loop-entry.entry-index c.loop-entry.auto.entry-index-end c.loop-entry-test.false c.loop-entry.invariant

pub returns-then-not-entry_fits : goal.returns-then-not-entry_fits
returns-then-not-entry_fits = grind (arith, common_steps)
