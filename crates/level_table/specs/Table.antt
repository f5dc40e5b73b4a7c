-- The entries of a table: for each place how far it is home, as far as is known.
use Rattle.std.specs.Prelude.{◌≡◌, ℕ, ◌+◌, ◌*◌, ◌^◌, ◌<◌, ◌≤◌, ◌⊎◌, List, Option, None, Some, length, nat_lt, count_by, sum_by, slice_index_or}
use Rattle.ev_model.specs.Network.{Network, scaled_limit}
use Rattle.level_table.specs.Moves.{CanMove, move_time, place_after}
use Rattle.level_table.specs.Places.{IsHome, IsPlace, IsTrip, entry_count, index_of, place_of}
use Rattle.level_table.specs.Reach.{rank, rank_of}
use Rattle.level_table.specs.declared.moves.Move.{Move}
use Rattle.level_table.specs.declared.offers.Offer.{Offer}
use Rattle.level_table.specs.declared.place.Place.{Place}
use Rattle.level_table.specs.declared.reach.Reach.{Reach}

abbrev pub entry_at : List (Option Reach) → ℕ → Option Reach
entry_at entries index = slice_index_or entries index None

abbrev pub rank_at : Network → List (Option Reach) → ℕ → ℕ
rank_at g entries index = rank_of (scaled_limit g) (entry_at entries index)

-- the rank of a way home that begins with the move: its time and one move more than from the place that it leads to
abbrev pub rank_over : Network → List ℕ → List (Option Reach) → Move → Place → ℕ
rank_over g route entries step from =
    move_time g route step from * 2 ^ 32 + 1
    + rank_at g entries (index_of g (place_after g route step from))

-- the bound is no farther than any way home that begins with the move
abbrev pub IsNoFarther : Network → List ℕ → List (Option Reach) → Place → Move → ℕ → Type 0
IsNoFarther g route entries from step bound =
    CanMove g route step from → bound ≤ rank_over g route entries step from

-- a way home that begins with a move, within the limit
pub record IsOffer (g : Network) (route : List ℕ) (entries : List (Option Reach)) (from : Place) (offer : Offer) : Type 0 where
  pub can : CanMove g route offer.step from
  pub leads : offer.to ≡ place_after g route offer.step from
  pub rest : (r : Reach) × (entry_at entries (index_of g offer.to) ≡ Some r)
      × (offer.reach.time ≡ move_time g route offer.step from + r.time) ×
      (offer.reach.steps ≡ r.steps + 1)
  pub in_time : offer.reach.time ≤ scaled_limit g
  pub on_route : IsPlace g route offer.to ⊎ IsHome g route offer.to

abbrev pub offer_rank : ℕ → Option Offer → ℕ
offer_rank limit None = (limit + 1) * 2 ^ 32
offer_rank limit (Some offer) = rank offer.reach

-- some move goes on to a place from which home is nearer, by the move itself at least
pub record IsSupported (g : Network) (route : List ℕ) (entries : List (Option Reach)) (from : Place) (bound : ℕ) : Type 0 where
  pub step : Move
  pub can : CanMove g route step from
  pub enough : rank_over g route entries step from ≤ bound

-- how many entries rank before the bound
abbrev pub nearer_count : ℕ → ℕ → List (Option Reach) → ℕ
nearer_count limit bound entries = count_by (λ entry. nat_lt (rank_of limit entry) bound) entries

-- what holds of the table of a trip at all times
pub record IsTable (g : Network) (route : List ℕ) (entries : List (Option Reach)) : Type 0 where
  pub trip : IsTrip g route
  pub count : length entries ≡ entry_count g route + (g.capacity + 1) * 2
  -- at the end of the route nothing is left
  pub home : (index : ℕ) → entry_count g route ≤ index → index < length entries →
      entry_at entries index ≡ Some (record { time = 0; steps = 0 })
  pub in_time : (index : ℕ) (r : Reach) → entry_at entries index ≡ Some r → r.time ≤ scaled_limit g
  -- each move on a way home leads to an entry that ranks before, so there are at most as many moves as such entries
  pub few : (index : ℕ) (r : Reach) → entry_at entries index ≡ Some r →
      r.steps ≤ nearer_count (scaled_limit g) (rank r) entries
  pub supported : (index : ℕ) (r : Reach) → index < entry_count g route →
      entry_at entries index ≡ Some r
      → IsSupported g route entries (place_of g index) (rank r)

-- no way home that begins at the entry's place is nearer than the entry says
abbrev pub IsClosedAt : Network → List ℕ → List (Option Reach) → ℕ → Type 0
IsClosedAt g route entries index =
    (step : Move) → IsNoFarther g route entries (place_of g index) step (rank_at g entries index)

-- the same for all entries from one number up to another
abbrev pub IsClosed : Network → List ℕ → List (Option Reach) → ℕ → ℕ → Type 0
IsClosed g route entries from end =
    (index : ℕ) → from ≤ index → index < end → IsClosedAt g route entries index

-- the sum of all ranks
abbrev pub total_rank : ℕ → List (Option Reach) → ℕ
total_rank limit entries = sum_by (rank_of limit) entries
