use Rattle.std.proofs.Common.{◌≡◌, ◌∙◌, ap, arith, inl, inr, subst, sym}
use Rattle.std.proofs.lemmas.Bool.{cases_lt}
use Rattle.std.proofs.lemmas.List.Elements.{All-from_get_or}
use Rattle.ev_model.specs.Network.{IsNetwork}
use Rattle.mixed_model.specs.Kinds.{network_of, no_network}
use Rattle.mixed_model.proofs.KindNumbers.{kind_is}
use Rattle.mixed_fleet.proofs.planning.know_networks.Goals as goal

pub loop-inst-preserved : goal.loop-inst-preserved
loop-inst-preserved c k less =
    let kinds = c.args.kinds.now in
    let i = c.loop-inst.inst-index in
    let same = kind_is kinds i c.inst-item.result c.loop-inst-test.true c.inst-item.is in
    elim (cases_lt k i) [
      | inl before ↦ c.loop-inst.invariant k before
      | inr here ↦
          let now : k ≡ i = omega (arith, less, here) in
          subst IsNetwork (sym (ap (network_of kinds) now ∙ same)) c.nodes-nodes.ensures.network
    ]

pub returns : goal.returns
returns c =
    let end = c.loop-inst-test.false in
    All-from_get_or IsNetwork c.args.kinds.now no_network (λ k less. c.loop-inst.invariant k (omega (arith, less, end)))
