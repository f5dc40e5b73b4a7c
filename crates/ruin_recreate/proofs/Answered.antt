-- What stands in where a search finds no plan.
use Rattle.std.proofs.Common.{Bool, None}
use Rattle.ev_model.specs.Network.{Network}
use Rattle.route_improve.proofs.Answered.{moved_orderly}
use Rattle.route_improve.specs.Improved.{IsTimedAnswer}
use Rattle.route_improve.specs.declared.improving.Improved.{Improved}
use Rattle.route_improve.specs.declared.improving.Improved.TheVariants.{Plan, Alone}
use Rattle.ruin_recreate.specs.Recreated.{IsRecreated}

-- what the moves of single customers answer without a plan before, though a clock ended them
pub begun_by_moves : (g : Network) (ended : Bool) (answer : Improved) → IsTimedAnswer g ended None answer → IsRecreated g None answer
begun_by_moves g ended (Plan plan) is = moved_orderly g ended plan.routes is.0
begun_by_moves g ended (Alone node) is = is.1
