use Rattle.decimal_import.proofs.Conversions.{least_whole-IsCeiling}
use Rattle.decimal_import.proofs.laws.wholes_are_the_least.Goals as goal

pub returns : goal.returns
returns c = least_whole-IsCeiling
