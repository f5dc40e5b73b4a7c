-- Who may come next after the last customer of a vehicle, and what that earns by counted sets.
use Rattle.std.specs.Prelude.{◌≡◌, ◌≢◌, ℕ, ◌≤◌, ℤ, pos, ◌+ℤ◌, ◌≤ℤ◌, List, [], ◌∷◌, true, ◌&&◌, if◌then◌else◌}
use Rattle.std.specs.Int.Signed.{lt_z}
use Rattle.ev_model.specs.Network.{Network}
use Rattle.fleet_model.specs.Places.{customer_count}
use Rattle.near_tree.specs.Branches.{Branch, Counted}
use Rattle.near_tree.specs.Entries.{enters, is_in}
use Rattle.near_tree.specs.Sections.{after, anybody, Last, NearSection}

-- a place may come next: along an allowed pair, and never home before any customer; after anybody
-- everybody, home too
abbrev pub MayFollow : Branch → Last → ℕ → Type 0
MayFollow b anybody j = Unit {0}
MayFollow b (after i) j = (b.allows i j ≡ true) × (i ≡ 0 → j ≢ 0)

-- what coming next earns by a set with an entry price: that price where it enters the set; after
-- anybody, where it may, and where that is no loss
abbrev pub entry_earned : List ℕ → ℤ → Last → ℕ → ℤ
entry_earned set price anybody j = if is_in set j && lt_z (pos 0) price then price else pos 0
entry_earned set price (after i) j = if enters set i j then price else pos 0

-- the sum of that over all counted sets
abbrev pub entries_earned : List Counted → List ℤ → Last → ℕ → ℤ
entries_earned [] prices l j = pos 0
entries_earned (c ∷ cs) [] l j = pos 0
entries_earned (c ∷ cs) (price ∷ prices) l j =
    entry_earned c.set price l j +ℤ entries_earned cs prices l j

-- one last stands for another: all who may come next after the other one, home and that one's
-- customer too, may come next after it, and earn no less there by counted sets
abbrev pub StandsFor : Network → Branch → NearSection → Last → Last → Type 0
StandsFor g b s l other =
    (j : ℕ) → j ≤ customer_count g → MayFollow b other j →
    MayFollow b l j
    × (entries_earned b.counted s.entry_prices other j
    ≤ℤ entries_earned b.counted s.entry_prices l j)
