-- Which proofs for several kinds of vehicles, as they are written, have a text on these kinds. And
-- the wider language of what may begin such a text: each number is in its range by itself, without
-- the rules over several numbers.
use Rattle.std.specs.Prelude.{◌≡◌, ℕ, ◌≤◌, List, [], ◌∷◌, length, nat_le}
use Rattle.std.specs.List.{All}
use Rattle.ev_model.specs.Network.{Network}
use Rattle.ev_text.specs.Texts.{AreLooseRun, AreRun}
use Rattle.ev_text.specs.Numbers.{Keeping}
use Rattle.certificate_parts.specs.Limits.{greatest_weight, most_items}
use Rattle.certificate_parts.specs.Ranges.{IsPrice, customer_count}
use Rattle.certificate_parts.specs.Written.{WrittenLabel}
use Rattle.certificate_parts.specs.WrittenRanges.{BoundIs, EntryIs, EntryLoose, LabelIs, LabelLoose, next_entry}
use Rattle.mixed_model.specs.Kinds.{first_of}
use Rattle.mixed_model.specs.Ranges.{RouteFits}
use Rattle.mixed_model.specs.declared.proof.MixedRoot.{MixedRoot}
use Rattle.mixed_model.specs.declared.proof.MixedRoot.TheVariants as root
use Rattle.mixed_model.specs.declared.proof.MixedShare.{MixedShare}
use Rattle.mixed_text.specs.Written.{WrittenMixed}

-- a route of one of so many kinds, with its share
pub record MixedShareIs (count : ℕ) (x : MixedShare) : Type 0 where
  pub share : Keeping greatest_weight (λ n. nat_le 1 n) x.share
  pub route : RouteFits count x.route

pub record MixedShareLoose (count : ℕ) (x : MixedShare) : Type 0 where
  pub share : x.share ≤ greatest_weight
  pub route : RouteFits count x.route

-- the root, where helpers name nodes of a network
abbrev pub MixedRootIs : ℕ → Network → MixedRoot → Type 0
MixedRootIs count g root.None = Unit {0}
MixedRootIs count g (root.Exact over shares) =
    Keeping greatest_weight (λ n. nat_le 1 n) over × (length shares ≤ most_items)
    × All (MixedShareIs count) shares
MixedRootIs count g (root.Wide columns basis) =
    (length columns ≤ most_items) × All (RouteFits count) columns
    × AreRun (EntryIs g (length columns)) next_entry (customer_count g) [] basis

abbrev pub MixedRootLoose : ℕ → Network → MixedRoot → Type 0
MixedRootLoose count g root.None = Unit {0}
MixedRootLoose count g (root.Exact over shares) =
    (over ≤ greatest_weight) × (length shares ≤ most_items)
    × AreLooseRun (MixedShareLoose count) (length shares) shares
MixedRootLoose count g (root.Wide columns basis) =
    (length columns ≤ most_items) × AreLooseRun (RouteFits count) (length columns) columns
    × AreLooseRun EntryLoose (customer_count g) basis

-- the labels of a kind, on its network
pub record LabelsAre (g : Network) (labels : List WrittenLabel) : Type 0 where
  pub few : length labels ≤ most_items
  pub each : All (LabelIs g) labels

pub record LabelsLoose (g : Network) (labels : List WrittenLabel) : Type 0 where
  pub few : length labels ≤ most_items
  pub each : AreLooseRun (LabelLoose g) (length labels) labels

-- one item for each kind, which fits on its network
abbrev pub OneEach : {A : Type 0} → (Network → A → Type 0) → List Network → List A → Type 0
OneEach Fits [] [] = Unit {0}
OneEach Fits [] (item ∷ items) = ⊥
OneEach Fits (g ∷ kinds) [] = ⊥
OneEach Fits (g ∷ kinds) (item ∷ items) = Fits g item × OneEach Fits kinds items

pub record MixedIs (kinds : List Network) (w : WrittenMixed) : Type 0 where
  pub bound : BoundIs w.bound
  pub root_is : MixedRootIs (length kinds) (first_of kinds) w.root
  pub weight : w.weight ≤ greatest_weight
  pub prices : All IsPrice w.prices
  pub one_price : length w.prices ≡ customer_count (first_of kinds)
  pub labels : OneEach LabelsAre kinds w.labels

pub record MixedLoose (kinds : List Network) (w : WrittenMixed) : Type 0 where
  pub bound : BoundIs w.bound
  pub root_is : MixedRootLoose (length kinds) (first_of kinds) w.root
  pub weight : w.weight ≤ greatest_weight
  pub prices : AreLooseRun IsPrice (customer_count (first_of kinds)) w.prices
  pub labels : OneEach LabelsLoose kinds w.labels
