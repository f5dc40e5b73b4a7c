use Rattle.mixed_text.proofs.MixedLaws.{one_mixed}
use Rattle.mixed_text.proofs.laws.texts_mean_one_mixed_proof.Goals as goal

pub returns : goal.returns
returns c = one_mixed
