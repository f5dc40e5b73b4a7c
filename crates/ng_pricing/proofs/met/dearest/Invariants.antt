use Rattle.std.proofs.Common.{◌<◌, ◌≤◌, get_or, length, take}
use Rattle.ev_model.specs.Fleet.{times_in}
use Rattle.near_proof.specs.Terms.{earned_by}
use Rattle.ng_pricing.proofs.met.dearest.Given as goal

abbrev pub invariant-loop-number : goal.invariant-loop-number
invariant-loop-number l = record {
  known : l.dearest < length l.prices;
  serves : 1 ≤ times_in l.numbers l.dearest;
  some : 0 < earned_by l.prices (take l.number-index l.numbers) → 0 < get_or l.prices l.dearest 0;
}
