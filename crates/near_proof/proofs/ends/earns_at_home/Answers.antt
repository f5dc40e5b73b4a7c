use Rattle.std.proofs.Common.{◌≡◌, ◌∙◌, ◌<◌, ℕ, List, Option, Some, max, ap, sym, subst, arith}
use Rattle.dominance.specs.LevelTimes.{time_at}
use Rattle.ev_model.specs.Network.{energy, node_count, scaled_limit}
use Rattle.piece_fn.specs.PieceFn.{level_times}
use Rattle.label_steps.specs.Arrivals.{drive_time, ArrivesAs, IsArrival}
use Rattle.near_proof.proofs.HomeSteps.{home_told}
use Rattle.near_proof.proofs.ends.earns_at_home.Goals as goal

pub arrival-requires-clause-levels : goal.arrival-requires-clause-levels
arrival-requires-clause-levels c = c.requires.levels

pub returns-in-Some : goal.returns-in-Some
returns-in-Some c =
    let g = c.args.inst.now in
    let l = c.args.label.now in
    let named : ArrivesAs c.args.inst.now c.args.label.now.value c.args.label.now.node 0 c.max-least.result (Some c.in-Some.value) = subst (λ (o : Option (List (ℕ × ℕ))). ArrivesAs c.args.inst.now c.args.label.now.value c.args.label.now.node 0 c.max-least.result o) c.in-Some.is c.in_ok-value.ensures.left in
    let least : c.max-least.result ≡ max c.args.inst.now.reserve c.args.inst.now.home_level = omega (arith, c.min_q.ensures.value, c.home_q.ensures.value, c.max-least.ensures) in
    let arrival = subst (λ r. IsArrival (energy c.args.inst.now c.args.label.now.node 0) (drive_time c.args.inst.now c.args.label.now.node 0) (scaled_limit c.args.inst.now) r (level_times c.args.label.now.value) (level_times c.in-Some.value)) least named in
    let known : 0 < node_count c.args.inst.now = (let node = c.requires.node in omega (arith, node)) in
    let time : c.least.result.1 ≡ time_at (level_times c.in-Some.value) (level_times c.in-Some.value).first = c.least.ensures.time ∙ ap (λ y. time_at (level_times c.in-Some.value) y) c.least.ensures.level in
    home_told g c.args.weight l c.in-Some.value c.least.result.1 arrival c.least.ensures.valid time c.earns.result known (λ e. c.if-label-eq0.false (sym e)) c.earns.ensures
