-- A depot that is a station, and one customer.
use Rattle.std.specs.Prelude.{pos, [], ◌∷◌, None, Some}
use Rattle.ev_model.specs.Network.{Network}
use Rattle.near_tree.specs.Examples.Labels.{label}
use Rattle.near_tree.specs.Sections.{after, Last, NearSection}

-- a battery lasts for the way there and back
abbrev pub depot_station : Network
depot_station = record {
  capacity = 2;
  reserve = 0;
  home_level = 0;
  energies = (0 ∷ 1 ∷ []) ∷ (1 ∷ 0 ∷ []) ∷ [];
  times = (0 ∷ 4 ∷ []) ∷ (4 ∷ 0 ∷ []) ∷ [];
  process_times = 0 ∷ 0 ∷ [];
  curves = Some ((0, 0) ∷ (2, 2) ∷ []) ∷ None ∷ [];
  plug_times = 0 ∷ 0 ∷ [];
  denominator = 1;
  limit = 1000;
}

-- one label at the depot, after this last, and one behind the customer
abbrev pub both : Last → NearSection
both last = record {
  weight = 1;
  prices = pos 8 ∷ [];
  sets = (0 ∷ []) ∷ [];
  entry_prices = [];
  labels = label last 0 [] (pos 0) 2 (0 ∷ []) ∷ label (after 1) 1 (0 ∷ []) (pos 8) 1 (4 ∷ []) ∷ [];
}
