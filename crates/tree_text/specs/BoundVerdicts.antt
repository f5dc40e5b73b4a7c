-- The verdict on a proof of a bound, of either kind, and its lines.
use Rattle.std.specs.Prelude.{ℕ, Bool, true, false, List, Option}
use Rattle.ev_model.specs.Network.{Network}
use Rattle.near_proof.specs.Verdicts as near
use Rattle.near_proof.specs.declared.verdict.NearVerdict.TheVariants as near_verdict
use Rattle.near_text.specs.VerdictText.{near_verdict_text}
use Rattle.near_tree.specs.Verdicts as tree
use Rattle.near_tree.specs.declared.verdict.TreeVerdict.TheVariants as tree_verdict
use Rattle.tree_text.specs.VerdictText.{tree_verdict_text}
use Rattle.tree_text.specs.declared.bounds.judging.BoundVerdict.{BoundVerdict}
use Rattle.tree_text.specs.declared.bounds.judging.BoundVerdict.TheVariants as verdict
use Rattle.tree_text.specs.declared.bounds.proof.BoundProof.{BoundProof}
use Rattle.tree_text.specs.declared.bounds.proof.BoundProof.TheVariants.{Near, Tree}

-- no rule is broken
abbrev pub is_accepted : BoundVerdict → Bool
is_accepted (verdict.Near near_verdict.Accepted) = true
is_accepted (verdict.Tree tree_verdict.Accepted) = true
is_accepted other = false

-- a verdict on a proof of this kind
abbrev pub AreOfOneKind : BoundProof → BoundVerdict → Type 0
AreOfOneKind (Near p) (verdict.Near v) = Unit {0}
AreOfOneKind (Near p) (verdict.Tree v) = ⊥
AreOfOneKind (Tree p) (verdict.Near v) = ⊥
AreOfOneKind (Tree p) (verdict.Tree v) = Unit {0}

-- that it is accepted, or the first rule of its kind that it breaks
abbrev pub IsBoundVerdict : Network → BoundProof → BoundVerdict → Type 0
IsBoundVerdict g (Near p) (verdict.Near v) = near.IsVerdict g p v
IsBoundVerdict g (Near p) (verdict.Tree v) = ⊥
IsBoundVerdict g (Tree p) (verdict.Near v) = ⊥
IsBoundVerdict g (Tree p) (verdict.Tree v) = tree.IsVerdict g p v

-- the lines of its kind
abbrev pub bound_verdict_text : ℕ → Option ℕ → BoundVerdict → List ℕ
bound_verdict_text denominator bound (verdict.Near v) = near_verdict_text denominator bound v
bound_verdict_text denominator bound (verdict.Tree v) = tree_verdict_text denominator bound v
