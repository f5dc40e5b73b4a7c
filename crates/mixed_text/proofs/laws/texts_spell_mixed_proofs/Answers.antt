use Rattle.mixed_text.proofs.MixedLaws.{mixed_is_spelled}
use Rattle.mixed_text.proofs.laws.texts_spell_mixed_proofs.Goals as goal

pub returns : goal.returns
returns c = mixed_is_spelled
