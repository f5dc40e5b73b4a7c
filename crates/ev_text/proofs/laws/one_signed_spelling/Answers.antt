use Rattle.ev_text.proofs.DecimalSpellings.{signed_decimal_injective}
use Rattle.ev_text.proofs.laws.one_signed_spelling.Goals as goal

pub returns : goal.returns
returns c = signed_decimal_injective c.args.m c.args.n c.ranges.m c.ranges.n
