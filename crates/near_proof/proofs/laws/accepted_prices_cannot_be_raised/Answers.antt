use Rattle.near_proof.proofs.Truths.{highest}
use Rattle.near_proof.proofs.laws.accepted_prices_cannot_be_raised.Goals as goal

pub returns : goal.returns
returns c = highest
