use Rattle.std.proofs.Common.{◌∙◌}
use Rattle.call_words.proofs.Listed.{listed}
use Rattle.call_words.proofs.words.is_listed.Goals as goal

pub returns : goal.returns
returns c = c.contains.ensures.value ∙ listed c.args.names.now c.args.text.now
