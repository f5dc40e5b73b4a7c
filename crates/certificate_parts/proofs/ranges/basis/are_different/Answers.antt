use Rattle.std.proofs.Common.{◌∙◌, sym}
use Rattle.certificate_parts.specs.declared.entry.BasisEntry.TheVariants.{Helper}
use Rattle.certificate_parts.proofs.Entries.{all_differ, stands_again, stands_once}
use Rattle.certificate_parts.proofs.ranges.basis.are_different.Goals as goal

pub returns-then-stands_in : goal.returns-then-stands_in
returns-then-stands_in c =
    let again = sym c.stands_in.ensures ∙ c.if-stands_in.true in
    stands_again c.args.basis.now c.loop-at.at (Helper 0) c.loop-at-test.true again c.loop-at.invariant

pub loop-at-preserved : goal.loop-at-preserved
loop-at-preserved c =
    let once = sym c.stands_in.ensures ∙ c.if-stands_in.false in
    stands_once c.args.basis.now c.loop-at.at (Helper 0) c.loop-at-test.true once c.loop-at.invariant

pub returns : goal.returns
returns c = all_differ c.args.basis.now c.loop-at.at c.loop-at-test.false c.loop-at.invariant
