-- The pricing problem of a fleet of several kinds of vehicles: whether some route of some kind
-- earns at given prices.
use Rattle.std.specs.Prelude.{◌≡◌, ℕ, ◌<◌, ◌≤◌, ◌^◌, List, [], length, map, slice_index_or, true, ℤ, unsigned_abs}
use Rattle.std.specs.List.{All}
use Rattle.customer_sets.specs.Pairs.{allows_of, any_pair, ForbiddenPairs}
use Rattle.ev_model.specs.Network.{Network}
use Rattle.fleet_model.specs.ClosedList.{IsClosed}
use Rattle.fleet_model.specs.Section.{Section}
use Rattle.instance_reader.specs.Instance.{customer_nodes}
use Rattle.piece_fn.specs.declared.label.Label.{Label}
use Rattle.bound_certificate.specs.Meaning.{priced_label}
use Rattle.certificate_parts.specs.Limits.{most_items}
use Rattle.certificate_parts.specs.Ranges.{LabelFits}
use Rattle.price_loop.specs.Problems.{IsEarning, Problem}
use Rattle.price_loop.specs.declared.earners.Earned.{Earned}
use Rattle.price_loop.specs.declared.earners.Earned.TheVariants.{Better, Closed}
use Rattle.mixed_model.specs.Kinds.{first_of, network_of}
use Rattle.mixed_fleet.specs.Searched.{IsSearched}
use Rattle.mixed_fleet.specs.declared.searched.Searched.{Searched}

-- labels at a weight and prices, where no pair is forbidden
abbrev pub open_section : ℕ → List ℤ → List Label → Section
open_section weight prices labels = record {
  weight = weight;
  prices = prices;
  allows = any_pair;
  labels = map (priced_label prices) labels;
}

-- labels that show that no route of a vehicle of a kind earns, in the ranges of proofs
pub record IsClosedList (g : Network) (weight : ℕ) (prices : List ℤ)
    (labels : List Label) : Type 0 where
  pub closed : IsClosed g (open_section weight prices labels)
  pub few : length labels ≤ most_items
  pub each : All (LabelFits g) labels

-- the labels of the kind with a number
abbrev pub labels_at : List (List Label) → ℕ → List Label
labels_at labels kind = slice_index_or labels kind []

-- the lists of the first kinds are such labels
abbrev pub AreClosedBelow : List Network → ℕ → ℕ → List ℤ → List (List Label) → Type 0
AreClosedBelow kinds count weight prices labels =
    (kind : ℕ) → kind < count →
    IsClosedList (network_of kinds kind) weight prices (labels_at labels kind)

-- a list for each kind
pub record AreClosedLists (kinds : List Network) (weight : ℕ) (prices : List ℤ)
    (labels : List (List Label)) : Type 0 where
  pub one_list : length labels ≡ length kinds
  pub closed : AreClosedBelow kinds (length kinds) weight prices labels

-- routes of all kinds, each with its customers by number, at its scaled time
abbrev pub problem_of : List Network → Problem Searched (List (List Label))
problem_of kinds = record {
  customers = length (customer_nodes (first_of kinds));
  is_route = IsSearched kinds;
  served = λ r. r.numbers;
  cost = λ r. r.time;
  closes = AreClosedLists kinds;
}

-- no pair of places is forbidden
pub record AreOpen (kinds : List Network) (pairs : ForbiddenPairs) : Type 0 where
  pub customers : pairs.customers ≡ length (customer_nodes (first_of kinds))
  pub allowed : (a b : ℕ) → allows_of pairs a b ≡ true

-- what may be asked: a weight, and a price for each customer
pub record MayBeAsked (kinds : List Network) (weight : ℕ) (prices : List ℤ) : Type 0 where
  pub weight_small : weight ≤ 2 ^ 40
  pub one_price : length prices ≡ length (customer_nodes (first_of kinds))
  pub small : All (λ price. unsigned_abs price ≤ 2 ^ 84) prices

-- routes of a kind that earn, or labels that show that there is none
abbrev pub IsEarnedBy : List Network → ℕ → ℕ → List ℤ → Earned Searched (List Label) → Type 0
IsEarnedBy kinds kind weight prices (Better first further) =
    IsEarning (problem_of kinds) weight prices first
    × All (IsEarning (problem_of kinds) weight prices) further.items
IsEarnedBy kinds kind weight prices (Closed labels) =
    IsClosedList (network_of kinds kind) weight prices labels
