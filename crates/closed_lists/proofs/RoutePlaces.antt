-- The place that the instance tells of a node is that of the definitions.
use Rattle.std.proofs.Common.{◌≡◌, ℕ, zero, suc, refl, arith}
use Rattle.ev_model.specs.Network.{Network}
use Rattle.fleet_model.specs.Places.{place_of}
use Rattle.fleet_model.proofs.Numbers.{numbered}
use Rattle.instance_reader.specs.Instance.{IsRoutePlace}

pub placed : (g : Network) (node place : ℕ) → IsRoutePlace g node place → place ≡ place_of g node
placed g node zero is = rw is refl
placed g node (suc number) is = let same = numbered g number node is.1 in rw is.0 (omega (arith, same))
