-- A depot and one customer from whom no way leads back: there is no plan.
use Rattle.std.specs.Prelude.{ℤ, [], ◌∷◌}
use Rattle.ev_model.specs.Examples.NoStation.{no_station}
use Rattle.ev_model.specs.Network.{Network}
use Rattle.near_tree.specs.Examples.Labels.{at_start, label}
use Rattle.near_tree.specs.Sections.{after, NearSection}

abbrev pub out_of_reach : Network
out_of_reach = record no_station { energies = (0 ∷ 6 ∷ []) ∷ (6 ∷ 0 ∷ []) ∷ [] }

-- the customer has a price, and time has no weight
abbrev pub priced_at : ℤ → NearSection
priced_at price = record {
  weight = 0;
  prices = price ∷ [];
  sets = (0 ∷ []) ∷ [];
  entry_prices = [];
  labels = at_start 10 ∷ label (after 1) 1 (0 ∷ []) price 4 (4 ∷ []) ∷ [];
}
