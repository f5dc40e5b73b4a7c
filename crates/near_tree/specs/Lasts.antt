-- Lasts told by places, and rows of whom they stand for and who may come next.
use Rattle.std.specs.Prelude.{◌≡◌, ◌↔◌, ℕ, ◌+◌, ◌<◌, ◌≤◌, Bool, true, false, not, ◌&&◌, ◌||◌, nat_eq, nat_lt, List, [], ◌∷◌, length, slice_index_or, ◌≤ℤ◌, if◌then◌else◌}
use Rattle.certificate_parts.specs.Ranges.{customer_count}
use Rattle.customer_sets.specs.CustSet.{has}
use Rattle.ev_model.specs.Network.{Network}
use Rattle.near_tree.specs.Branches.{Counted}
use Rattle.near_tree.specs.Entries.{is_in}
use Rattle.near_tree.specs.Follows.{entries_earned, MayFollow, StandsFor}
use Rattle.near_tree.specs.Paths.{permits_all}
use Rattle.near_tree.specs.Rules.{Leaf}
use Rattle.near_tree.specs.Sections.{after, anybody, Last}
use Rattle.near_tree.specs.declared.path.Turn.{Turn}

-- the last with a place among so many customers: past them it is anybody
abbrev pub last_at : ℕ → ℕ → Last
last_at customers place = if nat_lt customers place then anybody else after place

-- a place may come next after a last
abbrev pub may_by : ℕ → List Turn → ℕ → ℕ → Bool
may_by customers path last next =
    nat_lt customers last || (not (nat_eq last 0 && nat_eq next 0) && permits_all path last next)

-- the places that may
abbrev pub IsMayRow : ℕ → List Turn → ℕ → List ℕ → Type 0
IsMayRow customers path last row =
    (next : ℕ) → next ≤ customers → has row next ≡ may_by customers path last next

-- who may come next after the other last may after this one, and earns no less by counted sets
abbrev pub IsServedAt : ℕ → Leaf → ℕ → ℕ → ℕ → Type 0
IsServedAt customers f last other next =
    MayFollow f.branch (last_at customers other) next →
    MayFollow f.branch (last_at customers last) next
    × (entries_earned f.branch.counted f.section.entry_prices (last_at customers other) next
    ≤ℤ entries_earned f.branch.counted f.section.entry_prices (last_at customers last) next)

-- a set has both places or neither
abbrev pub has_alike : List ℕ → ℕ → ℕ → Bool
has_alike set one other = if is_in set one then is_in set other else not (is_in set other)

-- each counted set has both places or neither
abbrev pub are_counted_alike : List Counted → ℕ → ℕ → Bool
are_counted_alike [] one other = true
are_counted_alike (c ∷ cs) one other =
    if has_alike c.set one other then are_counted_alike cs one other else false

-- the lasts for which one stands
abbrev pub IsStandRow : Network → Leaf → ℕ → List ℕ → Type 0
IsStandRow g f last row =
    (other : ℕ) → other < customer_count g + 2 → (has row other ≡ true)
    ↔ StandsFor g f.branch f.section (last_at (customer_count g) last)
    (last_at (customer_count g) other)

-- so many rows, each as it should be
pub record AreRows (IsRow : ℕ → List ℕ → Type 0) (count : ℕ) (rows : List (List ℕ)) : Type 0 where
  pub count_is : length rows ≡ count
  pub each : (k : ℕ) → k < count → IsRow k (slice_index_or rows k [])
