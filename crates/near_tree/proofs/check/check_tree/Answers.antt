use Rattle.std.proofs.Common.{◌≡◌, subst}
use Rattle.label_index.proofs.Options.{ok_map}
use Rattle.near_proof.specs.Truth.{IsTrueNearBound}
use Rattle.near_tree.specs.Verdicts.{IsVerdict}
use Rattle.near_tree.specs.declared.verdict.TreeVerdict.TheVariants.{Accepted}
use Rattle.near_tree.proofs.Shown.{is_true}
use Rattle.near_tree.proofs.check.check_tree.Goals as goal

pub returns-clause-shows : goal.returns-clause-shows
returns-clause-shows c =
    ok_map (IsVerdict c.args.inst.now c.args.proof.now) (λ v. v ≡ Accepted → IsTrueNearBound c.args.inst.now c.args.proof.now.bound) c.verdict_on.result
    (λ v is same. is_true c.args.inst.now c.args.proof.now c.nodes-nodes.ensures.network c.requires (subst (IsVerdict c.args.inst.now c.args.proof.now) same is)) c.verdict_on.ensures
