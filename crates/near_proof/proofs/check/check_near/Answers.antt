use Rattle.std.proofs.Common.{◌≡◌, subst}
use Rattle.near_proof.specs.Truth.{IsTrue as IsTrueProof}
use Rattle.near_proof.specs.Verdicts.{IsVerdict}
use Rattle.near_proof.specs.declared.verdict.NearVerdict.TheVariants.{Accepted}
use Rattle.near_proof.proofs.Truths.{is_true}
use Rattle.label_index.proofs.Options.{ok_map}
use Rattle.near_proof.proofs.check.check_near.Goals as goal

pub returns-clause-shows : goal.returns-clause-shows
returns-clause-shows c =
    ok_map (IsVerdict c.args.inst.now c.args.proof.now) (λ v. v ≡ Accepted → IsTrueProof c.args.inst.now c.args.proof.now) c.verdict_on.result
    (λ v is same. is_true c.args.inst.now c.args.proof.now c.nodes-nodes.ensures.network c.requires.fits (subst (IsVerdict c.args.inst.now c.args.proof.now) same is)) c.verdict_on.ensures
