use Rattle.std.proofs.Common.{None}
use Rattle.std.specs.Prelude.{IfOk}
use Rattle.std.specs.List.{All}
use Rattle.std.proofs.lemmas.Result.{IfOk-weaker}
use Rattle.label_steps.specs.Arrivals.{ArrivesAs}
use Rattle.label_search.specs.Steps.{IsLeft}
use Rattle.label_search.proofs.LeavingValues.{same_place}
use Rattle.label_search.proofs.steps.values_behind.Goals as goal

pub returns-clause-left : goal.returns-clause-left
returns-clause-left g c =
    let s = g.R.Resources.space c.args.resources.now in
    same_place (λ k w n. IfOk c.values_at.result (λ values. All (IsLeft k w n c.args.node) values.items)) c.instance-inst.result.now s.network c.value.result.now (s.value c.args.label.now) c.node-from.result (s.node c.args.label.now)
    c.instance-inst.ensures.same c.value.ensures c.node-from.ensures c.values_at.ensures.left

pub returns-clause-some : goal.returns-clause-some
returns-clause-some g c =
    let s = g.R.Resources.space c.args.resources.now in
    IfOk-weaker c.values_at.result _ _
    (λ values more can. more (λ none. c.instance-inst.ensures.lawful.arrives c.args.label.now c.args.node can
    (same_place (λ k w n. ArrivesAs k w n c.args.node k.reserve None) c.instance-inst.result.now s.network c.value.result.now (s.value c.args.label.now) c.node-from.result (s.node c.args.label.now)
    c.instance-inst.ensures.same c.value.ensures c.node-from.ensures none)))
    c.values_at.ensures.some
