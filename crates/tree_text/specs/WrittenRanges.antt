-- Which trees, as they are written, have a text on a network. And the wider language of what may
-- begin such a text: each number is in its range by itself, without the rules over several numbers.
use Rattle.std.specs.Prelude.{◌≡◌, ℕ, ◌≤◌, Bool, true, false, ◌&&◌, not, List, [], ◌∷◌, None, length, nat_eq, nat_lt, unsigned_abs}
use Rattle.std.specs.List.{All}
use Rattle.ev_model.specs.Network.{Network, node_count}
use Rattle.ev_text.specs.Texts.{AreLooseRun, AreRun, ConsLoose}
use Rattle.ev_text.specs.Numbers.{Keeping, UpTo}
use Rattle.route_plan.specs.Limits.{greatest_number}
use Rattle.certificate_parts.specs.Limits.{greatest_bound, greatest_weight, most_items}
use Rattle.certificate_parts.specs.Ranges.{customer_count, IsPrice}
use Rattle.certificate_parts.specs.Reading.{is_customer_node, is_place}
use Rattle.certificate_parts.specs.WrittenRanges.{BoundIs, PointsAre, PointsLoose, SetIs, SetLoose}
use Rattle.near_text.specs.WrittenRanges.{NearSetIs, NearSetLoose, next_number}
use Rattle.near_tree.specs.Branches.{Counted}
use Rattle.tree_text.specs.Asked.{AllAsked}
use Rattle.tree_text.specs.Reading.{broken_count}
use Rattle.tree_text.specs.Written.{WrittenLast, WrittenNode, WrittenSection, WrittenSectionLabel, WrittenTree, counted_below, is_station, named, star, unwritten, written_entries, written_leaf, written_split}

-- a last at a station; nothing is written elsewhere
abbrev pub LastIs : Network → Bool → WrittenLast → Type 0
LastIs g false unwritten = Unit {0}
LastIs g false star = ⊥
LastIs g false (named node) = ⊥
LastIs g true unwritten = ⊥
LastIs g true star = Unit {0}
LastIs g true (named node) = Keeping greatest_number (is_place g) node

abbrev pub LastLoose : Bool → WrittenLast → Type 0
LastLoose false unwritten = Unit {0}
LastLoose false star = ⊥
LastLoose false (named node) = ⊥
LastLoose true unwritten = ⊥
LastLoose true star = Unit {0}
LastLoose true (named node) = node ≤ greatest_number

pub record SectionLabelIs (g : Network) (l : WrittenSectionLabel) : Type 0 where
  pub node : Keeping greatest_number (λ n. nat_lt n (node_count g)) l.node
  pub last : LastIs g (is_station g l.node) l.last
  pub memory : SetIs g l.memory
  pub earned : unsigned_abs l.earned ≤ greatest_bound
  pub points : PointsAre g l.points

pub record SectionLabelLoose (g : Network) (l : WrittenSectionLabel) : Type 0 where
  pub node : l.node ≤ greatest_number
  pub last : LastLoose (is_station g l.node) l.last
  pub memory : SetLoose l.memory
  pub earned : unsigned_abs l.earned ≤ greatest_bound
  pub points : PointsLoose g l.points

-- a section with so many entry prices
pub record SectionIs (g : Network) (entries : ℕ) (s : WrittenSection) : Type 0 where
  pub weight : s.weight ≤ greatest_weight
  pub prices : All IsPrice s.prices
  pub one_price : length s.prices ≡ customer_count g
  pub sets : AreRun (NearSetIs g) next_number (customer_count g) 0 s.sets
  pub entry_prices : All IsPrice s.entry_prices
  pub one_entry_price : length s.entry_prices ≡ entries
  pub few : length s.labels ≤ most_items
  pub labels : All (SectionLabelIs g) s.labels

pub record SectionLoose (g : Network) (entries : ℕ) (s : WrittenSection) : Type 0 where
  pub weight : s.weight ≤ greatest_weight
  pub prices : AreLooseRun IsPrice (customer_count g) s.prices
  pub sets : AreLooseRun NearSetLoose (customer_count g) s.sets
  pub entry_prices : AreLooseRun IsPrice entries s.entry_prices
  pub few : length s.labels ≤ most_items
  pub labels : AreLooseRun (SectionLabelLoose g) (length s.labels) s.labels

-- a set that isn't empty
abbrev pub SomeSetIs : Network → List ℕ → Type 0
SomeSetIs g [] = ⊥
SomeSetIs g (node ∷ nodes) = SetIs g (node ∷ nodes)

-- a node below which and above which so much is counted
abbrev pub NodeIs : Network → List Counted → WrittenNode → Type 0
NodeIs g counted (written_split i j) =
    Keeping greatest_number (is_customer_node g) i
    × Keeping greatest_number (λ node. is_customer_node g node && not (nat_eq node i)) j
NodeIs g counted (written_entries k set) =
    (k ≤ customer_count g) × SomeSetIs g set × (broken_count counted (k, set) ≡ None)
NodeIs g counted (written_leaf s) = SectionIs g (length counted) s

abbrev pub NodeLoose : Network → List Counted → WrittenNode → Type 0
NodeLoose g counted (written_split i j) = (i ≤ greatest_number) × (j ≤ greatest_number)
NodeLoose g counted (written_entries k set) =
    (k ≤ customer_count g)
    × ConsLoose (UpTo greatest_number) (All (UpTo greatest_number)) set
NodeLoose g counted (written_leaf s) = SectionLoose g (length counted) s

pub record TreeIs (g : Network) (w : WrittenTree) : Type 0 where
  pub bound : BoundIs w.bound
  pub nodes : AllAsked (NodeIs g) counted_below ([] ∷ []) w.nodes

pub record TreeLoose (g : Network) (w : WrittenTree) : Type 0 where
  pub bound : BoundIs w.bound
  pub nodes : AllAsked (NodeLoose g) counted_below ([] ∷ []) w.nodes
