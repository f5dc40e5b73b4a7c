use Rattle.std.proofs.Common.{sym, subst, arith}
use Rattle.std.proofs.lemmas.Grind.{common_steps}
use Rattle.dominance.specs.LevelTimes.{time_at}
use Rattle.piece_fn.specs.PieceFn.{level_times}
use Rattle.label_steps.specs.Covering.{IsCoveredTo}
use Rattle.near_proof.specs.Covered.{IsNearCovered}
use Rattle.label_index.specs.Entries.{TellsTime}
use Rattle.near_proof.specs.Targets.{Asking, covers, covers_by, state_at}
use Rattle.near_proof.proofs.CoveredStates.{contains_of, covered_by_one, left_first, left_next, left_nothing, misses_of}
use Rattle.near_proof.proofs.coverage.AskedCovering.reach.Goals as goal

pub loop-entries-init : goal.loop-entries-init
loop-entries-init c =
    left_first c.self.inside.weight c.self.inside.labels.now (state_at c.self.inside.target c.args.level c.in-Some.time) c.self.inside.entries.now c.self.invariant.entries
    c.first-begin.result c.first-begin.ensures.within c.first-begin.ensures.before

pub returns-in-Some-reach_by-clause-some : goal.returns-in-Some-reach_by-clause-some
returns-in-Some-reach_by-clause-some c =
    let tells = subst (λ b. TellsTime c.self.inside.entries.now c.loop-entries.at c.self.inside.target.node c.in-Some.time b) c.loop-entries-test.true c.is_in_time.ensures in
    let a : Asking = record { weight = c.self.inside.weight; labels = c.self.inside.labels.now; target = c.self.inside.target } in
    let inside = contains_of c.self.inside.labels.now c.self.inside.entries.now c.self.invariant.entries c.loop-entries.at (record { key = 0; time = 0; number = 0; rest = tt }) c.index-labels-entries.result tells.0 c.index-labels-entries.is in
    subst (λ (q : Asking). IsCoveredTo (covers q) (level_times c.args.value.now) c.args.level c.in-Some-reach_by.to) c.self.view_is
    (covered_by_one a c.index-labels-entries.result c.args.value.now c.args.level c.in-Some-reach_by.to inside c.in-Some-reach_by.ensures.some)

pub loop-entries-preserved : goal.loop-entries-preserved
loop-entries-preserved c =
    let tells = subst (λ b. TellsTime c.self.inside.entries.now c.loop-entries.at c.self.inside.target.node c.in-Some.time b) c.loop-entries-test.true c.is_in_time.ensures in
    let b = state_at c.self.inside.target c.args.level c.in-Some.time in
    let none = subst (λ t. covers_by c.self.inside.weight c.index-labels-entries.result c.self.inside.target c.args.level t → ⊥) (sym c.in-Some.ensures.some.1) c.in-None.ensures.none in
    left_next c.self.inside.weight c.self.inside.labels.now b c.self.inside.entries.now c.self.invariant.entries c.first-begin.result c.loop-entries.at (record { key = 0; time = 0; number = 0; rest = tt }) tells.0
    (misses_of c.self.inside.weight c.self.inside.labels.now b c.self.inside.entries.now c.self.invariant.entries c.loop-entries.at (record { key = 0; time = 0; number = 0; rest = tt }) c.index-labels-entries.result tells.0 c.index-labels-entries.is none) c.loop-entries.invariant

pub returns-clause-none : goal.returns-clause-none
returns-clause-none c =
    let tells = subst (λ b. TellsTime c.self.inside.entries.now c.loop-entries.at c.self.inside.target.node c.in-Some.time b) c.loop-entries-test.false c.is_in_time.ensures in
    let b = state_at c.self.inside.target c.args.level c.in-Some.time in
    let none = left_nothing c.self.inside.weight c.self.inside.labels.now b c.self.inside.entries.now c.self.invariant.entries c.first-begin.result c.loop-entries.at c.first-begin.ensures.behind tells c.loop-entries.invariant in
    let timed = subst (λ t. IsNearCovered c.self.inside.weight c.self.inside.labels.now (state_at c.self.inside.target c.args.level t) → ⊥) c.in-Some.ensures.some.1 none in
    subst (λ (q : Asking). covers q c.args.level (time_at (level_times c.args.value.now) c.args.level) → ⊥) c.self.view_is timed

pub bounds-labels-entries : goal.bounds-labels-entries
bounds-labels-entries = grind (arith, common_steps)

pub offset_bounds-labels-entries : goal.offset_bounds-labels-entries
offset_bounds-labels-entries = grind (arith, common_steps)
