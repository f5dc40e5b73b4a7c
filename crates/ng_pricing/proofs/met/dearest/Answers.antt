use Rattle.std.proofs.Common.{◌+◌, subst, sym}
use Rattle.ng_pricing.proofs.Lowered.{dearer, IsDearest, no_dearer}
use Rattle.ng_pricing.proofs.met.dearest.Goals.{else-prices-number, then-prices-number}
use Rattle.ng_pricing.proofs.met.dearest.Goals as goal

pub loop-number-preserved : goal.loop-number-preserved
loop-number-preserved c =
    let prices = c.args.prices.now in
    let numbers = c.args.numbers.now in
    let n = c.loop-number.number-index in
    let d = c.loop-number.dearest in
    let inside = c.loop-number-test.true in
    let old : IsDearest c.args.prices.now c.args.numbers.now c.loop-number.number-index c.loop-number.dearest = record { known = c.loop-number.invariant.known; serves = c.loop-number.invariant.serves; some = c.loop-number.invariant.some } in
    let known = c.requires.known n 0 inside in
    let next : IsDearest c.args.prices.now c.args.numbers.now (c.loop-number.number-index + 1) c.if-prices-number.dearest = elim c.if-prices-number.branch [
      | then-prices-number w ↦ subst (IsDearest c.args.prices.now c.args.numbers.now (c.loop-number.number-index + 1)) (sym w.dearest-is) (dearer prices numbers n d inside old known w.if-prices-number.true)
      | else-prices-number w ↦ subst (IsDearest c.args.prices.now c.args.numbers.now (c.loop-number.number-index + 1)) (sym w.dearest-is) (no_dearer prices numbers n d inside old w.if-prices-number.false)
    ] in
    record { known = next.known; serves = next.serves; some = next.some }
