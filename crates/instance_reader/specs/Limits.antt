-- The rules on the denominator and on the limit.
use Rattle.std.specs.Prelude.{ℕ, ◌*◌, ◌^◌, Option, None, Some, nat_lt}
use Rattle.std.specs.Bool.{then_some}
use Rattle.ev_model.specs.Curve.{IsDenominator}
use Rattle.instance_reader.specs.Contents.{Contents}
use Rattle.instance_reader.specs.Curves.{all_points}
use Rattle.instance_reader.specs.declared.faults.ReadFault.{ReadFault}
use Rattle.instance_reader.specs.declared.faults.ReadFault.TheVariants.{Denominator, Horizon}

-- d is the denominator of the curves of all entries, used or not
abbrev pub IsDenominatorOf : Contents → ℕ → Type 0
IsDenominatorOf c d = IsDenominator c.capacity (all_points c.curves) d

-- the greatest denominator
abbrev pub most_denominator : ℕ
most_denominator = 10 ^ 9

-- the greatest scaled limit
abbrev pub horizon : ℕ
horizon = 10 ^ 18

abbrev pub large_denominator : ℕ → Option ReadFault
large_denominator d = then_some (nat_lt most_denominator d) Denominator

-- a limit that is given is scaled past the horizon
abbrev pub past_horizon : ℕ → Option ℕ → Option ReadFault
past_horizon d None = None
past_horizon d (Some limit) = then_some (nat_lt horizon (d * limit)) (Horizon limit)
