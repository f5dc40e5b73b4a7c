use Rattle.std.proofs.Common.{◌≡◌, All, map}
use Rattle.instance_reader.specs.Instance.{TellsChargeTime}
use Rattle.instance_reader.proofs.curves.scaled.Given as goal

abbrev pub invariant-loop-curve : goal.invariant-loop-curve
invariant-loop-curve l = record {
  same : map (λ s. s.curve) l.scaled_curves.items ≡ l.yielded;
  scaled : All (λ s. TellsChargeTime s.curve.full l.denominator s.curve.points s.scaled) l.scaled_curves.items;
}
