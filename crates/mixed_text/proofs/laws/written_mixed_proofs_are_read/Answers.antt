use Rattle.mixed_text.proofs.MixedLaws.{text_is_read}
use Rattle.mixed_text.proofs.laws.written_mixed_proofs_are_read.Goals as goal

pub returns : goal.returns
returns c = text_is_read
