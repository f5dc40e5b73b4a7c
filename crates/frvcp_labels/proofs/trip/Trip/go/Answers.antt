use Rattle.std.proofs.Common.{◌<◌, ◌≤◌, ℕ, refl, subst, sym, arith}
use Rattle.std.proofs.lemmas.Grind.{common_steps}
use Rattle.std.proofs.lemmas.Result.{IfOk-weaker}
use Rattle.label_pool.proofs.Elements.{element_at}
use Rattle.route_steps.specs.Trips.{Journey}
use Rattle.dominance.specs.LevelTimes.{IsLevel}
use Rattle.piece_fn.specs.PieceFn.{level_times}
use Rattle.route_steps.specs.Steps.{AreSteps, CoverStops, IsSoundState, MayGo, StandsAt}
use Rattle.route_steps.specs.declared.state.State.{State}
use Rattle.ev_model.specs.Network.{node_count}
use Rattle.frvcp_labels.specs.Search.{SpreadsTo}
use Rattle.frvcp_labels.proofs.ChargedStates.{was_spreads}
use Rattle.frvcp_labels.proofs.FullBattery.{label_spreads, may_within}
use Rattle.frvcp_labels.proofs.SearchTurns.{covers_spread}
use Rattle.frvcp_labels.proofs.trip.Trip.go.Goals as goal

-- a state at its own place
stands : (s : State) → StandsAt (record { passed = s.passed; node = s.node }) s.value s
stands s = record { passed = refl; node = refl; value = refl }

pub values_at-requires-clause-known : goal.values_at-requires-clause-known
values_at-requires-clause-known c =
    let label = element_at c.args.pool.now.labels c.args.i c.requires.from in
    subst (λ (j : Journey). c.value-from.result.now.node < node_count j.network) (sym c.self.view_is)
    (subst (λ (s : State). s.node < node_count c.args.self.now.network) (sym (c.value-from.ensures label.0 label.1)) (c.requires.pool.labels c.args.i label.0 label.1).state.node)

pub values_at-requires-clause-levels : goal.values_at-requires-clause-levels
values_at-requires-clause-levels c =
    let label = element_at c.args.pool.now.labels c.args.i c.requires.from in
    subst (λ (j : Journey). (level : ℕ) → IsLevel (level_times c.value-from.result.now.value) level → level ≤ j.network.capacity) (sym c.self.view_is)
    (subst (λ (s : State). (level : ℕ) → IsLevel (level_times s.value) level → level ≤ c.args.self.now.network.capacity) (sym (c.value-from.ensures label.0 label.1)) (c.requires.pool.labels c.args.i label.0 label.1).state.levels)

pub values_at-requires-clause-next : goal.values_at-requires-clause-next
values_at-requires-clause-next c =
    let label = element_at c.args.pool.now.labels c.args.i c.requires.from in
    subst (λ (j : Journey). MayGo j.network j.route c.value-from.result.now.passed c.args.passed c.args.to) (sym c.self.view_is)
    (subst (λ (s : State). MayGo c.args.self.now.network c.args.self.now.route s.passed c.args.passed c.args.to) (sym (c.value-from.ensures label.0 label.1)) (c.requires.next label.0 label.1))

pub is_full_by-requires-clause-left : goal.is_full_by-requires-clause-left
is_full_by-requires-clause-left c =
    let label = element_at c.args.pool.now.labels c.args.i c.requires.from in
    subst (λ (s : State). s.node < node_count c.args.self.now.network) (sym (c.value-from.ensures label.0 label.1)) (c.requires.pool.labels c.args.i label.0 label.1).state.node

pub is_full_by-requires-clause-passed : goal.is_full_by-requires-clause-passed
is_full_by-requires-clause-passed c =
    let label = element_at c.args.pool.now.labels c.args.i c.requires.from in
    may_within c.args.self.now label.0.value.passed c.args.passed c.args.to (c.requires.next label.0 label.1)

pub is_full_by-requires-clause-reached : goal.is_full_by-requires-clause-reached
is_full_by-requires-clause-reached c =
    let label = element_at c.args.pool.now.labels c.args.i c.requires.from in
    (c.requires.next label.0 label.1).known

pub add_all-requires-clause-steps : goal.add_all-requires-clause-steps
add_all-requires-clause-steps c label here =
    subst (λ (s : State). AreSteps c.args.self.now.network c.args.self.now.route s c.args.passed c.args.to c.in_ok-values.values.items) (c.value-from.ensures label here)
    (subst (λ (j : Journey). AreSteps j.network j.route c.value-from.result.now c.args.passed c.args.to c.in_ok-values.values.items) c.self.view_is (c.in_ok-values.ensures.steps c.value-from.result.now (stands c.value-from.result.now)))

pub add_all-requires-clause-covers : goal.add_all-requires-clause-covers
add_all-requires-clause-covers c label here =
    subst (λ (s : State). CoverStops c.args.self.now.network c.args.self.now.route s c.args.passed c.args.to c.in_ok-values.values.items) (c.value-from.ensures label here)
    (subst (λ (j : Journey). CoverStops j.network j.route c.value-from.result.now c.args.passed c.args.to c.in_ok-values.values.items) c.self.view_is (c.in_ok-values.ensures.covers c.value-from.result.now (stands c.value-from.result.now)))

pub were_there-requires-clause-from : goal.were_there-requires-clause-from
were_there-requires-clause-from c =
    let label = element_at c.args.pool.now.labels c.args.i c.requires.from in
    subst (λ (s : State). IsSoundState c.args.self.now.network c.args.self.now.route s) (sym (c.value-from.ensures label.0 label.1)) (c.requires.pool.labels c.args.i label.0 label.1).state

pub were_there-requires-clause-next : goal.were_there-requires-clause-next
were_there-requires-clause-next c =
    let label = element_at c.args.pool.now.labels c.args.i c.requires.from in
    subst (λ (s : State). MayGo c.args.self.now.network c.args.self.now.route s.passed c.args.passed c.args.to) (sym (c.value-from.ensures label.0 label.1)) (c.requires.next label.0 label.1)

pub returns-then-branch-clause-spreads : goal.returns-then-branch-clause-spreads
returns-then-branch-clause-spreads c label here =
    subst (λ (s : State). SpreadsTo c.args.self.now c.args.pool.now.labels s c.args.passed c.args.to) (c.value-from.ensures label here)
    (was_spreads c.args.self.now c.args.pool.now.labels c.value-from.result.now c.args.passed c.args.to c.requires.pool.trip
    (subst (λ (s : State). MayGo c.args.self.now.network c.args.self.now.route s.passed c.args.passed c.args.to) (sym (c.value-from.ensures label here)) (c.requires.next label here)) c.requires.charged
    (c.in_ok-were_there.ensures c.if-branch.true))

pub returns-clause-spreads : goal.returns-clause-spreads
returns-clause-spreads c =
    IfOk-weaker c.add_all.result _ _
    (λ u reached label here. covers_spread c.args.self.now c.add_all.new.pool.labels label.value c.args.passed c.args.to c.in_ok-values.values.items
    (subst (λ (s : State). CoverStops c.args.self.now.network c.args.self.now.route s c.args.passed c.args.to c.in_ok-values.values.items) (c.value-from.ensures label here)
    (subst (λ (j : Journey). CoverStops j.network j.route c.value-from.result.now c.args.passed c.args.to c.in_ok-values.values.items) c.self.view_is (c.in_ok-values.ensures.covers c.value-from.result.now (stands c.value-from.result.now)))) reached)
    c.add_all.ensures.reached

pub returns-then-is_full_by-clause-spreads : goal.returns-then-is_full_by-clause-spreads
returns-then-is_full_by-clause-spreads c label here =
    label_spreads c.args.self.now c.args.pool.now.labels c.args.full.now label c.value-from.result.now c.args.passed c.args.to (c.requires.next label here) c.requires.full (c.requires.pool.labels c.args.i label here)
    (c.value-from.ensures label here) (c.is_full_by.ensures c.if-is_full_by.true)

pub returns-then-from-to-clause-spreads : goal.returns-then-from-to-clause-spreads
returns-then-from-to-clause-spreads = grind (arith, common_steps)
