-- A near proof as a tree of one leaf: its tight routes are left out, and its labels get a last.
use Rattle.std.specs.Prelude.{◌≡◌, ℕ, pos, [], map, is_none, if◌then◌else◌}
use Rattle.std.specs.List.{Contains}
use Rattle.ev_model.specs.Network.{curve_at, is_customer, Network}
use Rattle.fleet_model.specs.Places.{place_of}
use Rattle.near_proof.specs.States.{label_of}
use Rattle.near_proof.specs.declared.proof.NearLabel.{NearLabel}
use Rattle.near_proof.specs.declared.proof.NearProof.{NearProof}
use Rattle.near_tree.specs.Sections.{after, anybody, Last, LeafLabel, NearSection}
use Rattle.near_tree.specs.Trees.{leaf, NearTree}

-- at a customer's node that customer, at a station anybody, and nobody yet at a depot that is none
abbrev pub last_at : Network → ℕ → Last
last_at g x =
    if is_customer g x then after (place_of g x)
    else (if is_none (curve_at g x) then after 0 else anybody)

abbrev pub as_leaf_label : Network → NearLabel → LeafLabel
as_leaf_label g l = record { last = last_at g l.node; label = label_of l }

abbrev pub as_section : Network → NearProof → NearSection
as_section g p = record {
  weight = p.weight;
  prices = map pos p.prices;
  sets = p.sets;
  entry_prices = [];
  labels = map (as_leaf_label g) p.labels;
}

abbrev pub one_leaf : Network → NearProof → NearTree
one_leaf g p = leaf (as_section g p)

-- no label counts services
abbrev pub CountsNothing : NearProof → Type 0
CountsNothing p = (l : NearLabel) → Contains p.labels l → l.count ≡ 0
