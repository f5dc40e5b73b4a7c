use Rattle.std.proofs.Common.{inl, inr, subst, sym}
use Rattle.std.proofs.lemmas.Result.{IfOk-weaker}
use Rattle.label_pool.proofs.Elements.{element_at}
use Rattle.frvcp_labels.specs.Search.{SpreadsInTimeTo}
use Rattle.route_steps.specs.Steps.{IsSoundState, MayGo}
use Rattle.route_steps.specs.declared.state.State.{State}
use Rattle.frvcp_labels.proofs.trip.Trip.go_to_station.Goals as goal

pub is_late_over-requires-clause-from : goal.is_late_over-requires-clause-from
is_late_over-requires-clause-from c =
    let label = element_at c.args.pool.now.labels c.args.i c.requires.from in
    subst (λ (s : State). IsSoundState c.args.self.now.network c.args.self.now.route s) (sym (c.value.ensures label.0 label.1)) (c.requires.pool.labels c.args.i label.0 label.1).state

pub is_late_over-requires-clause-next : goal.is_late_over-requires-clause-next
is_late_over-requires-clause-next c =
    let label = element_at c.args.pool.now.labels c.args.i c.requires.from in
    subst (λ (s : State). MayGo c.args.self.now.network c.args.self.now.route s.passed c.args.passed c.args.to) (sym (c.value.ensures label.0 label.1)) (c.requires.next label.0 label.1)

pub returns-then-is_late_over-clause-spreads : goal.returns-then-is_late_over-clause-spreads
returns-then-is_late_over-clause-spreads c label here =
    subst (λ (s : State). SpreadsInTimeTo c.args.self.now c.args.pool.now.labels c.args.bar s c.args.passed c.args.to) (c.value.ensures label here) (inr (c.is_late_over.ensures c.if-is_late_over.true))

pub returns-clause-spreads : goal.returns-clause-spreads
returns-clause-spreads c = IfOk-weaker c.go.result _ _ (λ u spreads label here. inl (spreads label here)) c.go.ensures.spreads
