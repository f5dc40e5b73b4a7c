use Rattle.route_plan.proofs.Routes.{is_route, is_short, is_unbroken}
use Rattle.route_plan.proofs.laws.unbroken_nodes_are_routes.Goals as goal

pub returns : goal.returns
returns c = λ g nodes. (λ none. (is_route g nodes none, is_short g nodes none), λ is. is_unbroken g nodes is.0 is.1)
