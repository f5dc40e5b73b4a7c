use Rattle.std.proofs.Common.{drop}
use Rattle.gap_search.specs.Candidate.{IsMadeOf}
use Rattle.tree_text.specs.declared.bounds.proof.BoundProof.{BoundProof}
use Rattle.gap_search.proofs.candidate.proof_of_candidates.Given as goal

abbrev pub invariant-loop-candidate : goal.invariant-loop-candidate
invariant-loop-candidate l =
    (p : BoundProof) → IsMadeOf l.inst (drop l.candidate-index l.candidates) p → IsMadeOf l.inst l.fn.candidates p
