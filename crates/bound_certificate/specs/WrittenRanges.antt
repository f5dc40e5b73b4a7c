-- Which certificates have a text on a network, as they are written: each number is in its range, and keeps the rules with
-- the numbers before it. And the wider language of what may begin such a text, without the rules over several numbers.
use Rattle.std.specs.Prelude.{ℕ, ◌≤◌, Bool, ◌&&◌, not, List, [], Option, None, Some, length, nat_eq, nat_le, nat_lt}
use Rattle.std.specs.List.{All}
use Rattle.ev_model.specs.Network.{Network}
use Rattle.ev_text.specs.Texts.{AllFrom, AreLooseRun, AreRun}
use Rattle.ev_text.specs.Numbers.{Keeping, UpTo}
use Rattle.route_plan.specs.Limits.{greatest_number}
use Rattle.certificate_parts.specs.Limits.{greatest_weight, most_items}
use Rattle.bound_certificate.specs.Limits.{most_pairs}
use Rattle.certificate_parts.specs.Ranges.{ColumnFits, IsPrice, customer_count}
use Rattle.certificate_parts.specs.Reading.{is_customer_node, is_place}
use Rattle.bound_certificate.specs.Reading.{rises_from}
use Rattle.bound_certificate.specs.Trees.{Closes}
use Rattle.bound_certificate.specs.Written.{Written, WrittenSection}
use Rattle.bound_certificate.specs.declared.certificate.Root.{Root}
use Rattle.bound_certificate.specs.declared.certificate.Root.TheVariants as root
use Rattle.bound_certificate.specs.declared.certificate.Share.{Share}
use Rattle.bound_certificate.specs.declared.certificate.TreeLine.{TreeLine}
use Rattle.bound_certificate.specs.declared.certificate.TreeLine.TheVariants.{Split, Leaf}
use Rattle.certificate_parts.specs.WrittenRanges.{BoundIs, EntryIs, EntryLoose, LabelIs, LabelLoose, next_entry}

-- a forbidden pair of two different places, above the pair before it
abbrev pub may_follow : Network → Option (ℕ × ℕ) → ℕ → ℕ → Bool
may_follow g last i j = is_place g j && (not (nat_eq i j) && rises_from last (i, j))

pub record PairFits (g : Network) (last : Option (ℕ × ℕ)) (p : ℕ × ℕ) : Type 0 where
  pub first : Keeping greatest_number (is_place g) p.0
  pub second : Keeping greatest_number (λ j. may_follow g last p.0 j) p.1

pub record PairLoose (p : ℕ × ℕ) : Type 0 where
  pub first : p.0 ≤ greatest_number
  pub second : p.1 ≤ greatest_number

abbrev pub next_pair : Option (ℕ × ℕ) → ℕ × ℕ → Option (ℕ × ℕ)
next_pair before pair = Some pair

-- a section, with a price for each customer; no price depends on another
pub record SectionIs (g : Network) (s : WrittenSection) : Type 0 where
  pub weight : s.weight ≤ greatest_weight
  pub prices : AreRun {S = Unit {0}} (λ none price. IsPrice price) (λ none price. none)
      (customer_count g) (tt {0}) s.prices
  pub few_pairs : length s.pairs ≤ most_pairs
  pub pairs : AllFrom (PairFits g) next_pair None s.pairs
  pub few_labels : length s.labels ≤ most_items
  pub labels : All (LabelIs g) s.labels

pub record SectionLoose (g : Network) (s : WrittenSection) : Type 0 where
  pub weight : s.weight ≤ greatest_weight
  pub prices : AreLooseRun IsPrice (customer_count g) s.prices
  pub few_pairs : length s.pairs ≤ most_pairs
  pub pairs : AreLooseRun PairLoose (length s.pairs) s.pairs
  pub few_labels : length s.labels ≤ most_items
  pub labels : AreLooseRun (LabelLoose g) (length s.labels) s.labels

-- a route with its share
pub record ShareIs (x : Share) : Type 0 where
  pub share : Keeping greatest_weight (λ n. nat_le 1 n) x.share
  pub plan : ColumnFits x.plan

pub record ShareLoose (x : Share) : Type 0 where
  pub share : x.share ≤ greatest_weight
  pub plan : ColumnFits x.plan

-- the root, where helpers name nodes
abbrev pub RootIs : Network → Root → Type 0
RootIs g root.None = Unit {0}
RootIs g (root.Exact over shares) =
    Keeping greatest_weight (λ n. nat_le 1 n) over × (length shares ≤ most_items)
    × All ShareIs shares
RootIs g (root.Wide columns basis) =
    (length columns ≤ most_items) × All ColumnFits columns
    × AreRun (EntryIs g (length columns)) next_entry (customer_count g) [] basis

abbrev pub RootLoose : Network → Root → Type 0
RootLoose g root.None = Unit {0}
RootLoose g (root.Exact over shares) =
    (over ≤ greatest_weight) × (length shares ≤ most_items)
    × AreLooseRun ShareLoose (length shares) shares
RootLoose g (root.Wide columns basis) =
    (length columns ≤ most_items) × AreLooseRun ColumnFits (length columns) columns
    × AreLooseRun EntryLoose (customer_count g) basis

-- a line of the tree: a split is on two different customers, by their nodes, and a leaf names one of so many sections
abbrev pub LineIs : Network → ℕ → TreeLine → Type 0
LineIs g sections (Split i j) =
    Keeping greatest_number (is_customer_node g) i
    × Keeping greatest_number (λ m. is_customer_node g m && not (nat_eq i m)) j
LineIs g sections (Leaf n) = Keeping most_items (λ m. nat_lt m sections) n

abbrev pub LineLoose : TreeLine → Type 0
LineLoose (Split i j) = UpTo greatest_number i × UpTo greatest_number j
LineLoose (Leaf n) = UpTo most_items n

abbrev pub SectionsAre : Network → List WrittenSection → Type 0
SectionsAre g sections =
    Keeping most_items (λ n. nat_le 1 n) (length sections) × All (SectionIs g) sections

abbrev pub SectionsLoose : Network → List WrittenSection → Type 0
SectionsLoose g sections =
    (length sections ≤ most_items) × AreLooseRun (SectionLoose g) (length sections) sections

-- the lines of one whole tree
abbrev pub TreeIs : Network → ℕ → List TreeLine → Type 0
TreeIs g sections lines = All (LineIs g sections) lines × Closes 1 lines

abbrev pub TreeLoose : List TreeLine → Type 0
TreeLoose lines = All LineLoose lines × Closes 1 lines

-- what is written is in the ranges of the network
pub record WrittenIs (g : Network) (w : Written) : Type 0 where
  pub bound : BoundIs w.bound
  pub root_is : RootIs g w.root
  pub sections : SectionsAre g w.sections
  pub tree : TreeIs g (length w.sections) w.tree

-- each number is in its range by itself
pub record WrittenLoose (g : Network) (w : Written) : Type 0 where
  pub bound : BoundIs w.bound
  pub root_is : RootLoose g w.root
  pub sections : SectionsLoose g w.sections
  pub tree : TreeLoose w.tree
