use Rattle.near_text.proofs.NearLaws.{near_is_spelled}
use Rattle.near_text.proofs.laws.texts_spell_near_proofs.Goals as goal

pub returns : goal.returns
returns c = near_is_spelled
