use Rattle.near_text.proofs.NearLaws.{text_is_read}
use Rattle.near_text.proofs.laws.written_near_proofs_are_read.Goals as goal

pub returns : goal.returns
returns c = text_is_read
