use Rattle.near_proof.proofs.Sound.{routes_pay}
use Rattle.near_proof.proofs.laws.a_near_route_pays_its_prices.Goals as goal

pub returns : goal.returns
returns c = λ g t labels network full closed. routes_pay g t labels network full closed
