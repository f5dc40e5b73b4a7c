use Rattle.near_tree.proofs.Sound.{routes_pay}
use Rattle.near_tree.proofs.laws.a_near_route_pays_at_a_leaf.Goals as goal

pub returns : goal.returns
returns c = routes_pay
