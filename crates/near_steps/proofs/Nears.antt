-- Bytes hold one near proof at most, and an accepted one breaks no rule.
use Rattle.std.proofs.Common.{◌≡◌, ◌≢◌, ◌∙◌, ℕ, List, refl, sym}
use Rattle.ev_model.specs.Network.{Network}
use Rattle.ev_text.proofs.Results.{Ok-injective}
use Rattle.near_steps.specs.NearFile.{HasNear}
use Rattle.near_proof.proofs.Rules.{not_broken}
use Rattle.near_proof.specs.Accepted.{IsAccepted}
use Rattle.near_proof.specs.Broken.{at_bound, at_home, at_start, at_step, at_tight}
use Rattle.near_proof.specs.Verdicts.{IsVerdict}
use Rattle.near_proof.specs.declared.proof.NearProof.{NearProof}
use Rattle.near_proof.specs.declared.verdict.NearVerdict.{NearVerdict}
use Rattle.near_proof.specs.declared.verdict.NearVerdict.TheVariants as verdict
use Rattle.near_text.proofs.WrittenNears.{one_written}
use Rattle.near_text.specs.Written.{written_near}

-- an accepted proof breaks no rule
pub accepted_keeps : (g : Network) (p : NearProof) (v : NearVerdict) → IsAccepted g p → v ≢ verdict.Accepted → IsVerdict g p v → ⊥
accepted_keeps g p verdict.Accepted accepted other is = other refl
accepted_keeps g p verdict.Start accepted other first = not_broken g p accepted at_start first.broken
accepted_keeps g p (verdict.Step label node) accepted other first = not_broken g p accepted (at_step label node) first.broken
accepted_keeps g p (verdict.End label) accepted other first = not_broken g p accepted (at_home label) first.broken
accepted_keeps g p verdict.Bound accepted other first = not_broken g p accepted at_bound first.broken
accepted_keeps g p (verdict.Tight customer) accepted other first = not_broken g p accepted (at_tight customer) first.broken

-- files hold one proof
pub one_near : (g : Network) (bytes : List ℕ) (p q : NearProof) → HasNear g bytes p → HasNear g bytes q → p ≡ q
one_near g bytes p q is was =
    one_written g p q is.spelled.fits was.spelled.fits is.spelled.kept was.spelled.kept (Ok-injective (written_near g p) (written_near g q) (sym is.read ∙ was.read))
