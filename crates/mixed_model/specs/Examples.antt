-- Two kinds of vehicles for the same two customers, and proofs for them. A route takes 12 at most,
-- so that no vehicle serves both.
use Rattle.std.specs.Prelude.{ℕ, List, [], ◌∷◌, Some, ◌+◌, pos}
use Rattle.ev_model.specs.Examples.OneStation.{at}
use Rattle.ev_model.specs.Examples.TwoCustomers.{two_customers}
use Rattle.ev_model.specs.Network.{Network}
use Rattle.piece_fn.specs.declared.label.Label.{Label}
use Rattle.mixed_model.specs.declared.proof.MixedProof.{MixedProof}
use Rattle.mixed_model.specs.declared.proof.MixedRoot.TheVariants.{Exact}
use Rattle.mixed_model.specs.declared.proof.MixedRoute.{MixedRoute}

-- kind 0 takes 4 to each customer, kind 1 takes 3 to the first and 6 to the second
abbrev pub two_kinds : List Network
two_kinds =
    record two_customers { limit = 12 } ∷
    record two_customers {
      times = (0 ∷ 3 ∷ 6 ∷ []) ∷ (3 ∷ 0 ∷ 5 ∷ []) ∷ (6 ∷ 5 ∷ 0 ∷ []) ∷ [];
      limit = 12;
    } ∷ []

-- a route of a kind to one customer
abbrev pub to_customer : ℕ → ℕ → MixedRoute
to_customer kind node = record {
  kind = kind;
  plan = record { stops = at 0 ∷ at node ∷ at 0 ∷ [] };
}

-- each customer is served by the kind that is nearer to it
abbrev pub nearest : List MixedRoute
nearest = to_customer 1 1 ∷ to_customer 0 2 ∷ []

-- a label with one level and its time
abbrev label : ℕ → List ℕ → ℕ → ℕ → Label
label node set level time = record {
  last = node;
  node = node;
  set = set;
  value = (level, time) ∷ [];
}

-- all that a vehicle comes to which takes so long to the first customer and to the second
abbrev labels : ℕ → ℕ → List Label
labels first second =
    label 0 [] 10 0 ∷ label 1 (0 ∷ []) 9 first ∷ label 2 (1 ∷ []) 9 second
    ∷ label 2 (0 ∷ 1 ∷ []) 8 (first + 5) ∷ label 1 (0 ∷ 1 ∷ []) 8 (second + 5) ∷ []

-- a proof by these prices, whose root is each customer's nearest route
abbrev pub priced_at : ℕ → ℕ → MixedProof
priced_at first second = record {
  bound = Some (first + second);
  weight = 1;
  prices = pos first ∷ pos second ∷ [];
  labels = labels 4 4 ∷ labels 3 6 ∷ [];
  root = Exact 1 (record { share = 1; route = to_customer 1 1 } ∷
      record { share = 1; route = to_customer 0 2 } ∷ []);
}
