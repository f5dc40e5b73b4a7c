use Rattle.std.proofs.Common.{subst}
use Rattle.std.specs.Prelude.{IfOk, IfSome}
use Rattle.label_steps.specs.Arrivals.{ArrivesAs}
use Rattle.label_search.specs.Steps.{IsLeft}
use Rattle.label_search.proofs.LeavingValues.{leaves, same_place}
use Rattle.label_search.proofs.steps.arrived_behind.Goals as goal

pub returns : goal.returns
returns g c =
    let s = g.R.Resources.space c.args.resources.now in
    let arrives = subst (λ r. IfOk c.arrival.result (ArrivesAs c.instance-inst.result.now c.value.result.now c.node-from.result c.args.node r)) c.min_q.ensures.value c.arrival.ensures.left in
    let left = leaves c.instance-inst.result.now c.value.result.now c.node-from.result c.args.node c.arrival.result arrives c.arrival.ensures.within in
    same_place (λ k w n. IfOk c.arrival.result (λ o. IfSome o (IsLeft k w n c.args.node))) c.instance-inst.result.now s.network c.value.result.now (s.value c.args.label.now) c.node-from.result (s.node c.args.label.now)
    c.instance-inst.ensures.same c.value.ensures c.node-from.ensures left
