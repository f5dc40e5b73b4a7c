-- The ranges of a proof by a tree: which numbers may stand where, on a network.
use Rattle.std.specs.Prelude.{◌≡◌, ℕ, ◌<◌, ◌≤◌, false, true, List, None, IfSome, length, unsigned_abs}
use Rattle.std.specs.List.{All}
use Rattle.charge_curve.specs.Points.{ArePoints}
use Rattle.certificate_parts.specs.Limits.{greatest_bound, greatest_weight, most_items}
use Rattle.certificate_parts.specs.Ranges.{customer_count, IsPrice, PointFits}
use Rattle.ev_model.specs.Network.{curve_at, is_customer, Network, node_count}
use Rattle.fleet_model.specs.Places.{place_of}
use Rattle.near_proof.specs.Ranges.{AreAmong, SetsFit}
use Rattle.near_tree.specs.Branches.{Branch, whole}
use Rattle.near_tree.specs.Preorder.{IsTreeOf, last_of}
use Rattle.near_tree.specs.Sections.{after, anybody, Last, NearSection}
use Rattle.near_tree.specs.Trees.{AtEachLeaf, IsTreeAt, NearTree}
use Rattle.near_tree.specs.declared.proof.LastServed.{LastServed}
use Rattle.near_tree.specs.declared.proof.LeafSection.{LeafSection}
use Rattle.near_tree.specs.declared.proof.SectionLabel.{SectionLabel}
use Rattle.near_tree.specs.declared.proof.TreeNode.{TreeNode}
use Rattle.near_tree.specs.declared.proof.TreeNode.TheVariants as node
use Rattle.near_tree.specs.declared.proof.TreeProof.{TreeProof}

-- the most sets that are counted on the way to a leaf
abbrev pub most_counted : ℕ
most_counted = 64

-- anybody, nobody yet, or one of so many customers
abbrev pub IsLastAmong : ℕ → Last → Type 0
IsLastAmong customers anybody = Unit {0}
IsLastAmong customers (after place) = place ≤ customers

-- at a customer's node the last is that customer, and at a depot that is no station it is nobody;
-- at a station it may be any
pub record LastFits (g : Network) (x : ℕ) (last : LastServed) : Type 0 where
  pub known : IsLastAmong (customer_count g) (last_of last)
  pub customer : is_customer g x ≡ true → last_of last ≡ after (place_of g x)
  pub depot : is_customer g x ≡ false → curve_at g x ≡ None → last_of last ≡ after 0

pub record SectionLabelFits (g : Network) (l : SectionLabel) : Type 0 where
  pub node : l.node < node_count g
  pub last : LastFits g l.node l.last
  pub memory : AreAmong (customer_count g) l.memory
  pub earned : unsigned_abs l.earned ≤ greatest_bound
  pub valid : ArePoints l.value
  pub points : All (PointFits g) l.value

-- beside the count of its entry prices, which the way down to it says
pub record LeafSectionFits (g : Network) (s : LeafSection) : Type 0 where
  pub weight : s.weight ≤ greatest_weight
  pub one_price : length s.prices ≡ customer_count g
  pub prices : All IsPrice s.prices
  pub sets : SetsFit (customer_count g) s.sets
  pub entry_prices : All IsPrice s.entry_prices
  pub few : length s.labels ≤ most_items
  pub labels : All (SectionLabelFits g) s.labels

-- beside the numbers of splits and counts, which depend on the way down to them
abbrev pub NodeFits : Network → TreeNode → Type 0
NodeFits g (node.Split i j) = Unit {0}
NodeFits g (node.Entries most set) = Unit {0}
NodeFits g (node.Leaf s) = LeafSectionFits g s

-- not too many sets are counted on the way down
abbrev pub CountsFew : Branch → NearSection → Type 0
CountsFew b s = length b.counted ≤ most_counted

-- a tree with these nodes, which are as they should be on the way down
pub record IsFitTree (g : Network) (nodes : List TreeNode) (t : NearTree) : Type 0 where
  pub nodes_are : IsTreeOf nodes t
  pub tree : IsTreeAt g whole t
  pub few : AtEachLeaf CountsFew whole t

-- the nodes are those of a tree, and all numbers are in their ranges
pub record TreeFits (g : Network) (p : TreeProof) : Type 0 where
  pub bound : IfSome p.bound (λ b. b ≤ greatest_bound)
  pub nodes : All (NodeFits g) p.nodes
  pub tree : (t : NearTree) × IsFitTree g p.nodes t
