-- What stands between the calls that read: places with their nodes, and the entries of a basis read so far.
use Rattle.std.specs.Prelude.{◌≡◌, ◌≤◌, List, map}
use Rattle.std.specs.List.{list_any}
use Rattle.ev_model.specs.Network.{Network}
use Rattle.certificate_parts.specs.Ranges.{customer_count, same_entry}
use Rattle.certificate_parts.specs.Written.{place_node, written_entry}
use Rattle.certificate_parts.specs.declared.entry.BasisEntry.{BasisEntry}
use Rattle.certificate_parts.specs.declared.reading.nodes.Place.{Place}

-- the place is one of the network, at its node
pub record IsPlaceOf (g : Network) (p : Place) : Type 0 where
  pub within : p.place ≤ customer_count g
  pub node_is : place_node g p.place ≡ p.node

-- a list has the entries read so far, by their nodes
abbrev pub IsState : Network → List BasisEntry → List BasisEntry → Type 0
IsState g earlier state =
    (entry : BasisEntry) → list_any (same_entry entry) state
    ≡ list_any (same_entry entry) (map (written_entry g) earlier)
