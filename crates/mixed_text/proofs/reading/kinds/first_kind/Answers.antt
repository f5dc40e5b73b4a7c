use Rattle.std.proofs.Common.{arith, sym}
use Rattle.mixed_text.proofs.TextParts.{kind_is}
use Rattle.mixed_text.proofs.reading.kinds.first_kind.Goals as goal

pub returns : goal.returns
returns c = sym (kind_is c.args.kinds.now 0 c.index-kinds-0.result (omega (arith, c.requires.some)) c.index-kinds-0.is)
