use Rattle.std.proofs.Common.{◌≡◌, ◌-◌, ◌<◌, ◌≤◌, ℕ, List, Option, inl, inr, sym, subst, arith}
use Rattle.std.proofs.lemmas.Grind.{common_steps}
use Rattle.std.proofs.lemmas.Bool.{cases_lt}
use Rattle.ev_model.specs.Network.{scaled_limit}
use Rattle.level_table.specs.Table.{IsClosedAt, total_rank}
use Rattle.level_table.specs.declared.reach.Reach.{Reach}
use Rattle.level_table.proofs.trip.Trip.sweep.Goals as goal

pub loop-index-preserved : goal.loop-index-preserved
loop-index-preserved c =
    let g = c.args.self.now.network in
    let route = c.args.self.now.route in
    let limit = scaled_limit g in
    let held = c.loop-index.entries in
    let last = c.loop-index.index - 1 in
    let same : c.improve.new.entries ≡ held = c.improve.ensures.same c.if-improve.false in
    let closed : IsClosedAt g route c.improve.new.entries last = c.improve.ensures.closed c.if-improve.false in
    record {
      table = c.improve.ensures.table;
      end = omega (arith, c.loop-index.invariant.end);
      closed = λ none index from end. elim (cases_lt last index) [
        | inl later ↦ subst (λ (es : List (Option Reach)). IsClosedAt g route es index) (sym same) (c.loop-index.invariant.closed none index (omega (arith, later)) end)
        | inr not_later ↦
            let here : last ≡ index = omega (arith, from, not_later) in
            subst (λ (i : ℕ). IsClosedAt g route c.improve.new.entries i) here closed
      ];
      total = subst (λ (es : List (Option Reach)). total_rank limit es ≤ total_rank limit c.args.entries.now) (sym same) c.loop-index.invariant.total;
      falls = λ some. subst (λ (es : List (Option Reach)). total_rank limit es < total_rank limit c.args.entries.now) (sym same) (c.loop-index.invariant.falls some);
    }

pub returns-clause-closed : goal.returns-clause-closed
returns-clause-closed = grind (arith, common_steps)

pub loop-index-init : goal.loop-index-init
loop-index-init = grind (arith, common_steps)

pub loop-index-preserved-then-improve : goal.loop-index-preserved-then-improve
loop-index-preserved-then-improve = grind (arith, common_steps)
