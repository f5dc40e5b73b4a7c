use Rattle.ng_pricing.proofs.NearFleets.{are_near}
use Rattle.ng_pricing.proofs.laws.routes_of_fleet_plans_are_near_routes.Goals as goal

pub returns : goal.returns
returns c = are_near
