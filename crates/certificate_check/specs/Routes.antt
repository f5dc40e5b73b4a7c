-- Routes of a fleet, tested stop by stop.
use Rattle.std.specs.Prelude.{◌≡◌, ℕ, ◌^◌, ◌<◌, ◌≤◌, true, false, List, [], ◌∷◌, Option, None, Some, if◌then◌else◌}
use Rattle.customer_sets.specs.CustSet.{has, with_customer}
use Rattle.ev_model.specs.Network.{Network}
use Rattle.ev_model.specs.Time.{time_of}
use Rattle.ev_model.specs.declared.Stop.{Stop}
use Rattle.fleet_model.specs.Cover.{IsFleetRoute}
use Rattle.fleet_model.specs.Places.{customer_number, numbers_of}
use Rattle.master_table.specs.declared.listed.ListedRoute.{ListedRoute}
use Rattle.plan_check.specs.FirstFaults.{serves}

-- the number of the customer whom a stop serves, none exactly where it serves none
abbrev pub IsServedBy : Network → Stop → Option ℕ → Type 0
IsServedBy g s None = serves g s ≡ false
IsServedBy g s (Some number) = (serves g s ≡ true) × (number ≡ customer_number g s.node)

-- a set with the customers that stops serve, none where one of them is in it already
abbrev pub served_once : Network → List ℕ → List Stop → Option (List ℕ)
served_once g set [] = Some set
served_once g set (s ∷ stops) =
    if serves g s then (if has set (customer_number g s.node) then None
    else served_once g (with_customer (customer_number g s.node) set) stops)
    else served_once g set stops

-- a listed route: its customers as a set, and its scaled time
pub record IsListedRoute (g : Network) (stops : List Stop) (r : ListedRoute) : Type 0 where
  pub route : IsFleetRoute g 1 stops
  pub set : (c : ℕ) → has r.set c ≡ has (numbers_of g stops) c
  pub time : r.time ≡ time_of g 1 g.capacity stops

-- a route that serves one of so many customers, at least, in a time up to the greatest limit
pub record IsRouteAmong (customers : ℕ) (r : ListedRoute) : Type 0 where
  pub customer : ℕ
  pub known : customer < customers
  pub served : has r.set customer ≡ true
  pub time : r.time ≤ 10 ^ 18
