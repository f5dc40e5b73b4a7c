-- How often customers stand in a list, counted by their numbers.
use Rattle.std.specs.Prelude.{◌≡◌, ℕ, ◌+◌, ◌<◌, List, [], ◌∷◌, Option, None, Some, min, nat_eq, nat_lt, slice_get, slice_index, if◌then◌else◌}
use Rattle.std.specs.List.{All}
use Rattle.ev_model.specs.Fleet.{times_in}
use Rattle.ev_model.specs.Network.{Network, node_count}
use Rattle.ev_model.specs.declared.Stop.{Stop}
use Rattle.instance_reader.specs.Instance.{customer_nodes}
use Rattle.route_plan.specs.declared.plan.RoutePlan.{RoutePlan}

-- the nodes of the stops are those of the network
abbrev pub AreKnown : Network → List Stop → Type 0
AreKnown g stops = All (λ s. s.node < node_count g) stops

-- the nodes of all stops are those of the network
abbrev pub AllKnown : Network → List RoutePlan → Type 0
AllKnown g plans = All (λ p. AreKnown g p.stops) plans

-- each customer's count, by its number, is how often it stands in the list; a count ends at 255
pub record Tallies (g : Network) (visits nodes : List ℕ) : Type 0 where
  pub counts : (number node : ℕ) → slice_get (customer_nodes g) number ≡ Some node →
      slice_index visits number ≡ min (times_in nodes node) 255

-- the first of the customers, whose numbers begin with this one, that was counted more than once
abbrev pub first_again : List ℕ → ℕ → List ℕ → Option ℕ
first_again visits number [] = None
first_again visits number (node ∷ nodes) =
    if nat_lt 1 (slice_index visits number) then Some node
    else first_again visits (number + 1) nodes

-- the first of the customers, whose numbers begin with this one, that was not counted
abbrev pub first_missed : List ℕ → ℕ → List ℕ → Option ℕ
first_missed visits number [] = None
first_missed visits number (node ∷ nodes) =
    if nat_eq (slice_index visits number) 0 then Some node
    else first_missed visits (number + 1) nodes
