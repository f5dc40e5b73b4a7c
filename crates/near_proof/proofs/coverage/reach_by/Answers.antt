use Rattle.std.proofs.Common.{◌≡◌, ◌≤◌, ◌<◌, ◌^◌, Fits, w64, arith}
use Rattle.customer_sets.specs.CustSet.{IsWithin}
use Rattle.dominance.specs.Coverage.{Reaches}
use Rattle.dominance.specs.LevelTimes.{time_at}
use Rattle.piece_fn.specs.PieceFn.{IsReach, level_times}
use Rattle.label_steps.specs.Covering.{IsCoveredTo}
use Rattle.near_proof.specs.Targets.{covers_by}
use Rattle.near_proof.proofs.CoveredStates.{pays_not, reach_covers, reaches_not}
use Rattle.label_index.proofs.Options.{none_map, some_map}
use Rattle.near_proof.proofs.coverage.reach_by.Goals as goal

pub returns-in-Some-clause-some : goal.returns-in-Some-clause-some
returns-in-Some-clause-some c =
    let apart = c.if-label-target.false in
    let more = c.if-target-label.false in
    let node : c.args.label.now.node ≡ c.args.target.now.node = grind (arith, apart) in
    let fewer : c.args.label.now.count ≤ c.args.target.now.count = omega (arith, more) in
    let within : IsWithin c.args.label.now.memory c.args.target.now.memory = c.is_subset.ensures.0 c.if-not-is_subset.false in
    some_map (λ to. IsReach (level_times c.args.label.now.value) (level_times c.args.value.now) c.in-Some.extra c.args.level to) (IsCoveredTo (covers_by c.args.weight c.args.label.now c.args.target.now) (level_times c.args.value.now) c.args.level) c.reach.result
    (λ to r. reach_covers c.args.weight c.args.label.now c.args.target.now c.args.value.now c.in-Some.extra c.args.level to node fewer within c.in-Some.ensures.some r) c.reach.ensures.some

pub returns-in-Some-clause-none : goal.returns-in-Some-clause-none
returns-in-Some-clause-none c =
    none_map (Reaches (level_times c.args.label.now.value) c.in-Some.extra c.args.level (time_at (level_times c.args.value.now) c.args.level) → ⊥)
    (covers_by c.args.weight c.args.label.now c.args.target.now c.args.level (time_at (level_times c.args.value.now) c.args.level) → ⊥) c.reach.result
    (λ none. reaches_not c.args.weight c.args.label.now c.args.target.now c.args.level (time_at (level_times c.args.value.now) c.args.level) c.in-Some.extra c.in-Some.ensures.some none) c.reach.ensures.none

pub returns-in-None-clause-none : goal.returns-in-None-clause-none
returns-in-None-clause-none c =
    let fits : Fits w64 c.args.time = c.ranges.time in
    let early : time_at (level_times c.args.value.now) c.args.level < 2 ^ 64 = omega (arith, fits, c.requires.time) in
    pays_not c.args.weight c.args.label.now c.args.target.now c.args.level (time_at (level_times c.args.value.now) c.args.level) c.in-None.ensures.none early
