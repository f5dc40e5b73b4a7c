use Rattle.decimal_import.proofs.Longest.{cut_longest}
use Rattle.decimal_import.proofs.laws.tokens_are_the_longest.Goals as goal

pub returns : goal.returns
returns c = cut_longest
