use Rattle.std.proofs.Common.{◌↔◌}
use Rattle.std.specs.Prelude.{IsTrue}
use Rattle.fleet_model.proofs.Numbers.{numbered}
use Rattle.near_proof.specs.Accepted.{HasTight}
use Rattle.near_proof.specs.Judging.{TellsTight}
use Rattle.label_index.proofs.Options.{ok_map}
use Rattle.near_proof.proofs.Verdicts.{settled}
use Rattle.near_proof.proofs.check.is_settled.Goals as goal

pub returns-in-Some : goal.returns-in-Some
returns-in-Some c =
    ok_map (λ tight. IsTrue tight ↔ HasTight c.args.inst.now c.args.proof.now c.in-Some.number) (TellsTight c.args.inst.now c.args.proof.now c.args.node) c.has_tight.result
    (λ tight told. settled c.args.inst.now c.args.proof.now c.args.node c.in-Some.number tight c.in-Some.ensures.value.0 (numbered c.args.inst.now c.in-Some.number c.args.node c.in-Some.ensures.value.1) told) c.has_tight.ensures
