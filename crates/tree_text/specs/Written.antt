-- A tree over near sections as it is written: customers by their nodes.
use Rattle.std.specs.Prelude.{ℕ, ◌+◌, ℤ, Bool, not, List, [], ◌∷◌, Option, map, is_none, if◌then◌else◌}
use Rattle.ev_model.specs.Network.{Network, curve_at}
use Rattle.certificate_parts.specs.Written.{customer_node}
use Rattle.near_text.specs.Written.{written_set}
use Rattle.near_tree.specs.Branches.{Counted, count_of, counted_anew}
use Rattle.near_tree.specs.declared.proof.LastServed.{LastServed}
use Rattle.near_tree.specs.declared.proof.LastServed.TheVariants.{Anybody, Customer, Nobody}
use Rattle.near_tree.specs.declared.proof.LeafSection.{LeafSection}
use Rattle.near_tree.specs.declared.proof.SectionLabel.{SectionLabel}
use Rattle.near_tree.specs.declared.proof.TreeNode.{TreeNode}
use Rattle.near_tree.specs.declared.proof.TreeNode.TheVariants as node
use Rattle.near_tree.specs.declared.proof.TreeProof.{TreeProof}

-- whom a vehicle served last: not written where its node says it; anybody, `*`; or a customer by
-- the node, 0 for nobody
pub data WrittenLast : Type 0 where
  unwritten : WrittenLast
  star : WrittenLast
  named : ℕ → WrittenLast

pub record WrittenSectionLabel : Type 0 where
  pub node : ℕ
  pub last : WrittenLast
  -- the nodes of the customers that are remembered, in rising order
  pub memory : List ℕ
  pub earned : ℤ
  -- levels, each with its time
  pub points : List (ℕ × ℕ)

pub record WrittenSection : Type 0 where
  pub weight : ℕ
  pub prices : List ℤ
  -- the nodes of each near set, in rising order
  pub sets : List (List ℕ)
  pub entry_prices : List ℤ
  pub labels : List WrittenSectionLabel

-- customers i and j by their nodes; a count k and the nodes of a set, in rising order
pub data WrittenNode : Type 0 where
  written_split : ℕ → ℕ → WrittenNode
  written_entries : ℕ → List ℕ → WrittenNode
  written_leaf : WrittenSection → WrittenNode

pub record WrittenTree : Type 0 where
  pub bound : Option ℕ
  pub nodes : List WrittenNode

-- the node of a station, the depot too where it is one
abbrev pub is_station : Network → ℕ → Bool
is_station g node = not (is_none (curve_at g node))

-- the node of a customer, 0 for nobody
abbrev pub named_last : Network → LastServed → WrittenLast
named_last g Nobody = named 0
named_last g (Customer c) = named (customer_node g c)
named_last g Anybody = star

abbrev pub written_last : Network → ℕ → LastServed → WrittenLast
written_last g node last = if is_station g node then named_last g last else unwritten

abbrev pub written_section_label : Network → SectionLabel → WrittenSectionLabel
written_section_label g l = record {
  node = l.node;
  last = written_last g l.node l.last;
  memory = written_set g l.memory;
  earned = l.earned;
  points = l.value;
}

abbrev pub written_section : Network → LeafSection → WrittenSection
written_section g s = record {
  weight = s.weight;
  prices = s.prices;
  sets = map (written_set g) s.sets;
  entry_prices = s.entry_prices;
  labels = map (written_section_label g) s.labels;
}

abbrev pub written_node : Network → TreeNode → WrittenNode
written_node g (node.Split before after) =
    written_split (customer_node g before) (customer_node g after)
written_node g (node.Entries most set) = written_entries most (written_set g set)
written_node g (node.Leaf s) = written_leaf (written_section g s)

abbrev pub written_tree : Network → TreeProof → WrittenTree
written_tree g p = record { bound = p.bound; nodes = map (written_node g) p.nodes }

-- what is counted of a set from now on: so many entries at least, and so many at most
abbrev pub narrowed : List Counted → List ℕ → ℕ → ℕ → List Counted
narrowed counted set least most =
    counted_anew counted (record { set = set; least = least; most = most })

-- what is counted below a node, in its first tree and in its second
abbrev pub counted_below : List Counted → WrittenNode → List (List Counted)
counted_below counted (written_split i j) = counted ∷ counted ∷ []
counted_below counted (written_entries k set) =
    narrowed counted set (count_of counted set).least k
    ∷ narrowed counted set (k + 1) (count_of counted set).most ∷ []
counted_below counted (written_leaf s) = []
