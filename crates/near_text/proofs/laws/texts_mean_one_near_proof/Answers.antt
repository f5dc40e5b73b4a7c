use Rattle.near_text.proofs.NearLaws.{one_near}
use Rattle.near_text.proofs.laws.texts_mean_one_near_proof.Goals as goal

pub returns : goal.returns
returns c = one_near
