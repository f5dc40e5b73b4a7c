-- A depot and two customers: examples/two_customers.json.
use Rattle.std.specs.Prelude.{List, [], ◌∷◌, None}
use Rattle.ev_model.specs.Network.{Network}
use Rattle.ev_model.specs.Examples.OneStation.{at}
use Rattle.ev_model.specs.declared.Stop.{Stop}

abbrev pub two_customers : Network
two_customers = record {
  capacity = 10;
  reserve = 0;
  home_level = 0;
  energies = (0 ∷ 1 ∷ 1 ∷ []) ∷ (1 ∷ 0 ∷ 1 ∷ []) ∷ (1 ∷ 1 ∷ 0 ∷ []) ∷ [];
  times = (0 ∷ 4 ∷ 4 ∷ []) ∷ (4 ∷ 0 ∷ 5 ∷ []) ∷ (4 ∷ 5 ∷ 0 ∷ []) ∷ [];
  process_times = 0 ∷ 0 ∷ 0 ∷ [];
  curves = None ∷ None ∷ None ∷ [];
  plug_times = 0 ∷ 0 ∷ 0 ∷ [];
  denominator = 1;
  limit = 1000000000000000000;
}

-- one vehicle serves both customers
abbrev pub together : List (List Stop)
together = (at 0 ∷ at 1 ∷ at 2 ∷ at 0 ∷ []) ∷ []

-- each customer has a vehicle
abbrev pub apart : List (List Stop)
apart = (at 0 ∷ at 1 ∷ at 0 ∷ []) ∷ (at 0 ∷ at 2 ∷ at 0 ∷ []) ∷ []

-- the first customer is served twice
abbrev pub twice : List (List Stop)
twice = (at 0 ∷ at 1 ∷ at 2 ∷ at 0 ∷ []) ∷ (at 0 ∷ at 1 ∷ at 0 ∷ []) ∷ []

-- the second customer is not served
abbrev pub unserved : List (List Stop)
unserved = (at 0 ∷ at 1 ∷ at 0 ∷ []) ∷ []
