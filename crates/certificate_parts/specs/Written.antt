-- Parts of a certificate as they are written: customers by their nodes.
use Rattle.std.specs.Prelude.{ℕ, zero, suc, ◌+◌, List, [], ◌∷◌, ◌++◌, slice_index, if◌then◌else◌}
use Rattle.customer_sets.specs.CustSet.{has}
use Rattle.ev_model.specs.Network.{Network}
use Rattle.instance_reader.specs.Instance.{customer_nodes}
use Rattle.piece_fn.specs.declared.label.Label.{Label}
use Rattle.certificate_parts.specs.declared.entry.BasisEntry.{BasisEntry}
use Rattle.certificate_parts.specs.declared.entry.BasisEntry.TheVariants.{Helper, Column}

pub record WrittenLabel : Type 0 where
  pub last : ℕ
  pub node : ℕ
  -- the nodes of the customers served, in rising order
  pub served : List ℕ
  -- levels, each with its time
  pub points : List (ℕ × ℕ)

-- the node of the customer with a number
abbrev pub customer_node : Network → ℕ → ℕ
customer_node g c = slice_index (customer_nodes g) c

-- the node of a place
abbrev pub place_node : Network → ℕ → ℕ
place_node g zero = 0
place_node g (suc c) = customer_node g c

-- of the nodes of customers, numbered from `number` on, those whose number is in the set
abbrev pub nodes_in : List ℕ → ℕ → List ℕ → List ℕ
nodes_in set number [] = []
nodes_in set number (node ∷ nodes) =
    (if has set number then node ∷ [] else []) ++ nodes_in set (number + 1) nodes

abbrev pub written_label : Network → Label → WrittenLabel
written_label g l = record {
  last = l.last;
  node = l.node;
  served = nodes_in l.set 0 (customer_nodes g);
  points = l.value;
}

abbrev pub written_entry : Network → BasisEntry → BasisEntry
written_entry g (Helper c) = Helper (customer_node g c)
written_entry g (Column k) = Column k
