-- What is made of candidates for a proof of a bound, of which nothing is known.
use Rattle.std.specs.Prelude.{◌≡◌, ◌≤◌, ◌⊎◌, ℕ, List, [], ◌∷◌, Option, None, Some}
use Rattle.ev_model.specs.Network.{Network}
use Rattle.near_tree.specs.Zero.{IsZeroTree}
use Rattle.near_tree.specs.declared.proof.TreeProof.{TreeProof}
use Rattle.tree_text.specs.BoundProofs.{IsAcceptedProof, IsBoundShown, bound_proof_text}
use Rattle.tree_text.specs.BoundTexts.{HasProof}
use Rattle.tree_text.specs.declared.bounds.proof.BoundProof.{BoundProof}
use Rattle.tree_text.specs.declared.bounds.proof.BoundProof.TheVariants.{Tree}

-- its text is read as this proof, which is in its ranges: no other has this text
abbrev pub IsReadAs : Network → BoundProof → BoundProof → Type 0
IsReadAs g candidate p = HasProof g (bound_proof_text g candidate) p

-- its text is read as this proof, which is accepted
abbrev pub IsTaken : Network → BoundProof → BoundProof → Type 0
IsTaken g candidate p = IsReadAs g candidate p × IsBoundShown g p

-- no proof that is accepted is read from its text
abbrev pub IsLeft : Network → BoundProof → Type 0
IsLeft g candidate = (p : BoundProof) → IsReadAs g candidate p → IsAcceptedProof g p → ⊥

-- what the judge makes of one
abbrev pub IsJudged : Network → BoundProof → Option BoundProof → Type 0
IsJudged g candidate (Some p) = IsTaken g candidate p
IsJudged g candidate None = IsLeft g candidate

-- a bound is at least another; that there is no plan is above each number
abbrev pub IsNoWeaker : Option ℕ → Option ℕ → Type 0
IsNoWeaker before None = Unit {0}
IsNoWeaker None (Some bound) = ⊥
IsNoWeaker (Some before) (Some bound) = before ≤ bound

-- the tree that each network has
abbrev pub IsZeroProof : Network → BoundProof → Type 0
IsZeroProof g p = (t : TreeProof) × IsZeroTree g t × (p ≡ Tree t)

-- The proof that is made of candidates: the first of them that is accepted, as it is read, and where
-- none is, the tree that each network has.
abbrev pub IsMadeOf : Network → List BoundProof → BoundProof → Type 0
IsMadeOf g [] p = IsZeroProof g p
IsMadeOf g (candidate ∷ candidates) p =
    IsTaken g candidate p ⊎ (IsLeft g candidate × IsMadeOf g candidates p)
