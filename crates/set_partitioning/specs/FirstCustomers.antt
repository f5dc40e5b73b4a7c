-- At which customer a route begins.
use Rattle.std.specs.Prelude.{ℕ, ◌&&◌, List, [], ◌∷◌, nat_eq, not, if◌then◌else◌}
use Rattle.ev_model.specs.Fleet.{customers_of}
use Rattle.ev_model.specs.Network.{Network}
use Rattle.ev_model.specs.declared.Stop.{Stop}

abbrev pub first_or_depot : List ℕ → ℕ
first_or_depot [] = 0
first_or_depot (node ∷ nodes) = node

-- the node of the first customer of a route, and 0 where it has none
abbrev pub first_customer_of : Network → List Stop → ℕ
first_customer_of g stops = first_or_depot (customers_of g stops)

-- the node of the first stop outside the depot that was not inserted, and 0 where there is none
abbrev pub first_outside : List Stop → ℕ
first_outside [] = 0
first_outside (s ∷ ss) =
    if not s.via && not (nat_eq s.node 0) then s.node else first_outside ss
