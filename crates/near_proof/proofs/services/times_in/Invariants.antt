use Rattle.std.proofs.Common.{◌≡◌, ◌+◌, ◌≤◌, drop}
use Rattle.ev_model.specs.Fleet.{times_in}
use Rattle.near_proof.proofs.services.times_in.Given as goal

abbrev pub invariant-loop-other : goal.invariant-loop-other
invariant-loop-other l = record {
  told : l.times + times_in (drop l.other-index l.numbers) l.number ≡ times_in l.numbers l.number;
  within : l.times ≤ l.other-index;
}
