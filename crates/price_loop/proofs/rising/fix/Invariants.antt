use Rattle.std.proofs.Common.{◌≡◌, ◌≤◌, ℕ, true, false, set}
use Rattle.price_loop.specs.Rising.{ArePayable}
use Rattle.price_loop.proofs.rising.fix.Given as goal

abbrev pub invariant-loop-excess : goal.invariant-loop-excess
invariant-loop-excess g l = record {
  prices : l.of ≡ set l.fn.of l.customer l.price;
  none_yet : l.found ≡ false → l.price ≡ l.top;
  most : l.found ≡ true → (y : ℕ) → ArePayable (g.E.Earners.problem l.earners) 1 (set l.fn.of l.customer y) → y ≤ l.price;
}

abbrev pub decreases-loop-excess : goal.decreases-loop-excess
decreases-loop-excess g l = l.price
