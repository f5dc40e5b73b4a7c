-- No route serves a customer twice: told by numbers.
use Rattle.std.specs.Prelude.{ℕ, ◌≤◌, List}
use Rattle.std.proofs.Common.{subst, sym}
use Rattle.ev_model.specs.Fleet.{customers_of, times_in}
use Rattle.ev_model.specs.Network.{Network}
use Rattle.ev_model.specs.Route.{route_of}
use Rattle.fleet_model.proofs.Counts.{numbers_once}
use Rattle.fleet_model.proofs.Plans.{filtered}
use Rattle.mixed_model.specs.Kinds.{network_of}
use Rattle.mixed_fleet.specs.Searched.{IsSearched}
use Rattle.mixed_fleet.specs.declared.searched.Searched.{Searched}

pub served_once : (kinds : List Network) (r : Searched) → IsSearched kinds r → (c : ℕ) →
    times_in r.numbers c ≤ 1
served_once kinds r is c =
    let g = network_of kinds r.route.kind in
    let stops = r.route.plan.stops in
    let served = customers_of g stops in
    let once = is.route.route.once in
    let few = numbers_once g served (filtered g (route_of stops)) once c in
    subst (λ (ns : List ℕ). times_in ns c ≤ 1) (sym is.numbers) few
