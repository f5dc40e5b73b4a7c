use Rattle.std.proofs.Common.{◌≤◌, length, subst, arith}
use Rattle.std.proofs.lemmas.Grind.{common_steps}
use Rattle.std.proofs.lemmas.List.Elements.{All-from_get_or}
use Rattle.ev_model.specs.Network.{IsNetwork}
use Rattle.fleet_model.specs.ClosedList.{IsClosed}
use Rattle.mixed_model.specs.Kinds.{network_of, no_network}
use Rattle.mixed_model.specs.Meaning.{section_of}
use Rattle.mixed_model.specs.Tellings.{TellsKind}
use Rattle.mixed_model.proofs.ProofRules.{below_more}
use Rattle.mixed_model.proofs.kinds.kind_fault.Goals as goal

pub loop-kind-preserved : goal.loop-kind-preserved
loop-kind-preserved c =
    let kinds = c.args.kinds.now in
    let p = c.args.p.now in
    let kind = c.loop-kind.kind in
    let here : IsClosed (network_of kinds kind) (section_of p kind) = subst (TellsKind kinds p kind) c.in_default.is c.in_ok-fault.ensures.told in
    record {
      networks = below_more (λ m. IsNetwork (network_of kinds m)) kind c.loop-kind.invariant.networks c.fault_in.ensures.network;
      closed = below_more (λ m. IsClosed (network_of kinds m) (section_of p m)) kind c.loop-kind.invariant.closed here;
    }

pub returns-in-Some : goal.returns-in-Some
returns-in-Some c =
    let told = subst (TellsKind c.args.kinds.now c.args.p.now c.loop-kind.kind) c.in-Some.is c.in_ok-fault.ensures.told in
    (told.0, told.1 c.loop-kind.invariant.closed)

pub returns : goal.returns
returns c =
    let kinds = c.args.kinds.now in
    let past : length kinds ≤ c.loop-kind.kind = c.loop-kind-test.false in (
      All-from_get_or IsNetwork kinds no_network (λ i within. c.loop-kind.invariant.networks i (omega (arith, within, past))),
      λ kind known. c.loop-kind.invariant.closed kind (omega (arith, known, past)),
    )

pub loop-kind-init : goal.loop-kind-init
loop-kind-init = grind (arith, common_steps)
