-- The bound of a leaf, and when a tree is accepted.
use Rattle.std.specs.Prelude.{◌≡◌, ℕ, ◌*◌, ℤ, pos, ◌+ℤ◌, ◌*ℤ◌, ◌≤ℤ◌, ◌<ℤ◌, List, [], ◌∷◌, Option, None, Some, if◌then◌else◌}
use Rattle.std.specs.Int.Signed.{lt_z}
use Rattle.ev_model.specs.Network.{Network}
use Rattle.ev_model.specs.Time.{time_of}
use Rattle.ev_model.specs.declared.Stop.{Stop}
use Rattle.fleet_model.specs.Pairs.{PlanKeepsPairs}
use Rattle.fleet_model.specs.Places.{numbers_of, places_of}
use Rattle.fleet_model.specs.Prices.{price_sum, price_total}
use Rattle.near_proof.specs.Routes.{IsNearRoute}
use Rattle.near_tree.specs.Branches.{Branch, Counted, whole}
use Rattle.near_tree.specs.Closed.{AreClosedAt}
use Rattle.near_tree.specs.Entries.{entries_among}
use Rattle.near_tree.specs.Pairs.{next_pairs}
use Rattle.near_tree.specs.Sections.{NearSection}
use Rattle.near_tree.specs.Trees.{AtEachLeaf, NearTree}

-- what the entries among pairs earn, set by set: the entry price as often as there are entries
abbrev pub entries_value : List Counted → List ℤ → List (ℕ × ℕ) → ℤ
entries_value [] prices pairs = pos 0
entries_value (c ∷ cs) [] pairs = pos 0
entries_value (c ∷ cs) (price ∷ prices) pairs =
    (price *ℤ pos (entries_among c.set pairs)) +ℤ entries_value cs prices pairs

-- what a route earns: the prices of its customers, each as often as it is served, and its entries
abbrev pub route_value : Network → Branch → NearSection → List Stop → ℤ
route_value g b s plan =
    price_sum s.prices (numbers_of g plan)
    +ℤ entries_value b.counted s.entry_prices (next_pairs (places_of g plan))

-- what all entries into counted sets earn at least: the entry price times the least number of
-- entries where it is above 0, and times the most where it is below 0
abbrev pub entries_total : List Counted → List ℤ → ℤ
entries_total [] prices = pos 0
entries_total (c ∷ cs) [] = pos 0
entries_total (c ∷ cs) (price ∷ prices) =
    (price *ℤ pos (if lt_z (pos 0) price then c.least else c.most)) +ℤ entries_total cs prices

-- the sum of all prices, and of what all entries earn at least
abbrev pub leaf_sum : Branch → NearSection → ℤ
leaf_sum b s = price_total s.prices +ℤ entries_total b.counted s.entry_prices

-- the bound of a leaf is its sum over its weight, rounded up: it is at least each number that,
-- times the weight, is less than the sum and one weight more. At the weight 0 it is at least every
-- number where the sum is above 0, and at least none where it isn't. No bound says that there is no
-- plan: the weight is 0 then, and the sum above 0
abbrev pub IsBounded : Option ℕ → Branch → NearSection → Type 0
IsBounded None b s = (s.weight ≡ 0) × (pos 0 <ℤ leaf_sum b s)
IsBounded (Some bound) b s = pos (bound * s.weight) <ℤ (leaf_sum b s +ℤ pos s.weight)

-- each near route that keeps the pairs of a leaf takes, times the weight, no less than it earns
-- there
abbrev pub NearRoutesPayAt : Network → Branch → NearSection → Type 0
NearRoutesPayAt g b s =
    (plan : List Stop) → IsNearRoute g s.sets plan → PlanKeepsPairs g b.allows plan →
    route_value g b s plan ≤ℤ pos (s.weight * time_of g 1 g.capacity plan)

-- what has to hold at each leaf
pub record IsAcceptedAt (g : Network) (bound : Option ℕ) (b : Branch)
    (s : NearSection) : Type 0 where
  pub closed : AreClosedAt g b s
  pub bounded : IsBounded bound b s

-- a tree shows a bound
abbrev pub IsAccepted : Network → Option ℕ → NearTree → Type 0
IsAccepted g bound t = AtEachLeaf (IsAcceptedAt g bound) whole t
