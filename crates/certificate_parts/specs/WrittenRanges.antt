-- Which written parts have a text on a network: each number is in its range, and keeps the rules with the numbers before
-- it. And the wider language of what may begin such a text, without the rules over several numbers.
use Rattle.std.specs.Prelude.{ℕ, ◌≤◌, ◌&&◌, not, List, [], ◌∷◌, Option, None, Some, nat_lt}
use Rattle.std.specs.List.{All, list_any}
use Rattle.ev_model.specs.Network.{Network, node_count, scaled_limit}
use Rattle.ev_text.specs.Texts.{AllFrom, ConsFrom, ConsLoose}
use Rattle.ev_text.specs.Numbers.{Keeping, UpTo}
use Rattle.route_plan.specs.Limits.{greatest_number}
use Rattle.certificate_parts.specs.Limits.{greatest_bound, most_items}
use Rattle.certificate_parts.specs.Ranges.{same_entry}
use Rattle.certificate_parts.specs.Reading.{is_above, is_customer_node, is_higher, is_later, is_place}
use Rattle.certificate_parts.specs.Written.{WrittenLabel}
use Rattle.certificate_parts.specs.declared.entry.BasisEntry.{BasisEntry}
use Rattle.certificate_parts.specs.declared.entry.BasisEntry.TheVariants.{Helper, Column}

-- a level above the one before it, with a time that may follow the one before it
pub record PointIs (g : Network) (last : Option (ℕ × ℕ)) (p : ℕ × ℕ) : Type 0 where
  pub level : Keeping g.capacity (is_higher last) p.0
  pub time : Keeping (scaled_limit g) (is_later last p.0) p.1

pub record PointLoose (g : Network) (p : ℕ × ℕ) : Type 0 where
  pub level : p.0 ≤ g.capacity
  pub time : p.1 ≤ scaled_limit g

abbrev pub next_point : Option (ℕ × ℕ) → ℕ × ℕ → Option (ℕ × ℕ)
next_point before point = Some point

-- the points of a label, of which there is one at least
abbrev pub PointsAre : Network → List (ℕ × ℕ) → Type 0
PointsAre g points =
    ConsFrom (PointIs g None) (λ first. AllFrom (PointIs g) next_point (Some first)) points

abbrev pub PointsLoose : Network → List (ℕ × ℕ) → Type 0
PointsLoose g points = ConsLoose (PointLoose g) (All (PointLoose g)) points

-- a customer of a set, above the one before it
abbrev pub MemberIs : Network → Option ℕ → ℕ → Type 0
MemberIs g last node =
    Keeping greatest_number (λ n. is_customer_node g n && is_above last n) node

abbrev pub next_member : Option ℕ → ℕ → Option ℕ
next_member before node = Some node

abbrev pub SetIs : Network → List ℕ → Type 0
SetIs g [] = Unit {0}
SetIs g (node ∷ nodes) =
    MemberIs g None node × AllFrom (MemberIs g) next_member (Some node) nodes

abbrev pub SetLoose : List ℕ → Type 0
SetLoose [] = Unit {0}
SetLoose (node ∷ nodes) = UpTo greatest_number node × All (UpTo greatest_number) nodes

pub record LabelIs (g : Network) (l : WrittenLabel) : Type 0 where
  pub last : Keeping greatest_number (is_place g) l.last
  pub node : Keeping greatest_number (λ n. nat_lt n (node_count g)) l.node
  pub served : SetIs g l.served
  pub points : PointsAre g l.points

pub record LabelLoose (g : Network) (l : WrittenLabel) : Type 0 where
  pub last : l.last ≤ greatest_number
  pub node : l.node ≤ greatest_number
  pub served : SetLoose l.served
  pub points : PointsLoose g l.points

-- an entry of a basis over so many columns that is none of the earlier ones
abbrev pub EntryIs : Network → ℕ → List BasisEntry → BasisEntry → Type 0
EntryIs g columns earlier (Helper node) =
    Keeping greatest_number (λ n. is_customer_node g n
    && not (list_any (same_entry (Helper n)) earlier)) node
EntryIs g columns earlier (Column number) =
    Keeping most_items (λ n. nat_lt n columns
    && not (list_any (same_entry (Column n)) earlier)) number

abbrev pub EntryLoose : BasisEntry → Type 0
EntryLoose (Helper node) = UpTo greatest_number node
EntryLoose (Column number) = UpTo most_items number

abbrev pub next_entry : List BasisEntry → BasisEntry → List BasisEntry
next_entry earlier entry = entry ∷ earlier

abbrev pub BoundIs : Option ℕ → Type 0
BoundIs None = Unit {0}
BoundIs (Some bound) = bound ≤ greatest_bound
