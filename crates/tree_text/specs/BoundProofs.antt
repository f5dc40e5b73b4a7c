-- Proofs of bounds on the cost of fleet plans, of either kind: by near routes, or by a tree over
-- near sections.
use Rattle.std.specs.Prelude.{ℕ, ◌≤◌, List, Option}
use Rattle.std.specs.List.{All}
use Rattle.ev_model.specs.Network.{Network}
use Rattle.instance_reader.specs.Instance.{most_customers}
use Rattle.certificate_parts.specs.Ranges.{customer_count}
use Rattle.near_proof.specs.Accepted as near
use Rattle.near_proof.specs.Ranges.{NearFits}
use Rattle.near_proof.specs.Truth.{IsTrue, IsTrueNearBound}
use Rattle.near_text.specs.NearIn.{IsKept}
use Rattle.near_text.specs.NearTexts.{near_text}
use Rattle.near_text.specs.Written.{written_near}
use Rattle.near_tree.specs.Bounds as tree
use Rattle.near_tree.specs.Preorder.{IsTreeOf}
use Rattle.near_tree.specs.Ranges.{TreeFits}
use Rattle.near_tree.specs.Trees.{NearTree}
use Rattle.tree_text.specs.TreeIn.{IsKeptNode}
use Rattle.tree_text.specs.TreeTexts.{tree_text}
use Rattle.tree_text.specs.Written.{written_tree}
use Rattle.tree_text.specs.declared.bounds.proof.BoundProof.{BoundProof}
use Rattle.tree_text.specs.declared.bounds.proof.BoundProof.TheVariants.{Near, Tree}

-- what no fleet plan costs less than, or that there is none
abbrev pub bound_of : BoundProof → Option ℕ
bound_of (Near p) = p.bound
bound_of (Tree p) = p.bound

-- a near proof is one of at most 128 customers, a tree one of any number
abbrev pub TakesCustomers : Network → BoundProof → Type 0
TakesCustomers g (Near p) = customer_count g ≤ most_customers
TakesCustomers g (Tree p) = Unit {0}

-- a proof is in the ranges of its kind
abbrev pub BoundFits : Network → BoundProof → Type 0
BoundFits g (Near p) = (customer_count g ≤ most_customers) × NearFits g p
BoundFits g (Tree p) = TreeFits g p

-- its sets are what they are by their type
abbrev pub IsKeptProof : BoundProof → Type 0
IsKeptProof (Near p) = IsKept p
IsKeptProof (Tree p) = All IsKeptNode p.nodes

-- its one text
abbrev pub bound_proof_text : Network → BoundProof → List ℕ
bound_proof_text g (Near p) = near_text (written_near g p)
bound_proof_text g (Tree p) = tree_text (written_tree g p)

-- it breaks no rule of its kind
abbrev pub IsAcceptedProof : Network → BoundProof → Type 0
IsAcceptedProof g (Near p) = near.IsAccepted g p
IsAcceptedProof g (Tree p) = (t : NearTree) × IsTreeOf p.nodes t × tree.IsAccepted g p.bound t

-- what it shows: no fleet plan costs less than its bound, in any fraction of a unit, and where it
-- has none there is no fleet plan; of a near proof also that no price can be higher
abbrev pub IsTrueProof : Network → BoundProof → Type 0
IsTrueProof g (Near p) = IsTrue g p
IsTrueProof g (Tree p) = IsTrueNearBound g p.bound

-- a proof in its ranges that is accepted, and so is true; its text is read as it where it isn't too
-- long
pub record IsBoundShown (g : Network) (p : BoundProof) : Type 0 where
  pub fits : BoundFits g p
  pub kept : IsKeptProof p
  pub accepted : IsAcceptedProof g p
  pub shows : IsTrueProof g p
