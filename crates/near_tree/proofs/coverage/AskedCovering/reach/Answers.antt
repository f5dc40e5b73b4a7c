use Rattle.std.proofs.Common.{◌≡◌, List, refl, sym, subst, arith}
use Rattle.std.specs.Prelude.{slice_index_or}
use Rattle.std.proofs.lemmas.Grind.{common_steps}
use Rattle.certificate_parts.specs.Ranges.{customer_count}
use Rattle.dominance.specs.LevelTimes.{time_at}
use Rattle.piece_fn.specs.PieceFn.{level_times}
use Rattle.label_steps.specs.Covering.{IsCoveredTo}
use Rattle.label_index.specs.Entries.{TellsTime}
use Rattle.label_index.specs.declared.entry.Entry.{Entry}
use Rattle.near_tree.specs.Sites.{leaf_of}
use Rattle.near_tree.specs.Targets.{Asking, covers, covers_by, IsStateCovered, state_at}
use Rattle.near_tree.specs.declared.proof.SectionLabel.{SectionLabel}
use Rattle.near_tree.proofs.CoveredStates.{contains_of, covered_by_one, left_first, left_next, left_nothing, misses_of}
use Rattle.near_tree.proofs.coverage.AskedCovering.reach.Goals as goal

abbrev an_entry : Entry (Unit {0})
an_entry = record { key = 0; time = 0; number = 0; rest = tt }

pub loop-entries-init : goal.loop-entries-init
loop-entries-init c =
    let j = c.self.inside.judge in
    left_first j.site.inst.now (leaf_of j.site) j.site.section.now.labels (state_at (customer_count j.site.inst.now) c.self.inside.target c.args.level c.in-Some.time) j.entries.now c.self.invariant.judge.entries
    c.first-begin.result c.first-begin.ensures.within c.first-begin.ensures.before

pub returns-in-Some-reach_by-clause-some : goal.returns-in-Some-reach_by-clause-some
returns-in-Some-reach_by-clause-some c =
    let j = c.self.inside.judge in
    let t = c.self.inside.target in
    let tells = subst (λ b. TellsTime c.self.inside.judge.entries.now c.loop-entries.at c.self.inside.target.node c.in-Some.time b) c.loop-entries-test.true c.is_in_time.ensures in
    let listed : c.index-labels-entries.result ≡ slice_index_or j.site.section.now.labels (slice_index_or j.entries.now c.loop-entries.at an_entry).number c.index-labels-entries.result = subst (λ (ls : List SectionLabel). c.index-labels-entries.result ≡ slice_index_or ls (slice_index_or j.entries.now c.loop-entries.at an_entry).number c.index-labels-entries.result) c.as_slice-labels.ensures c.index-labels-entries.is in
    let inside = contains_of j.site.section.now.labels j.entries.now c.self.invariant.judge.entries c.loop-entries.at an_entry c.index-labels-entries.result tells.0 listed in
    subst (λ (q : Asking). IsCoveredTo (covers q) (level_times c.args.value.now) c.args.level c.in-Some-reach_by.to) c.self.view_is
    (covered_by_one j.site.inst.now (leaf_of j.site) j.site.section.now.labels t c.index-labels-entries.result c.args.value.now c.args.level c.in-Some-reach_by.to refl inside c.in-Some-reach_by.ensures.some)

pub loop-entries-preserved : goal.loop-entries-preserved
loop-entries-preserved c =
    let j = c.self.inside.judge in
    let g = c.self.inside.judge.site.inst.now in
    let tells = subst (λ b. TellsTime c.self.inside.judge.entries.now c.loop-entries.at c.self.inside.target.node c.in-Some.time b) c.loop-entries-test.true c.is_in_time.ensures in
    let a = state_at (customer_count c.self.inside.judge.site.inst.now) c.self.inside.target c.args.level c.in-Some.time in
    let listed : c.index-labels-entries.result ≡ slice_index_or j.site.section.now.labels (slice_index_or j.entries.now c.loop-entries.at an_entry).number c.index-labels-entries.result = subst (λ (ls : List SectionLabel). c.index-labels-entries.result ≡ slice_index_or ls (slice_index_or j.entries.now c.loop-entries.at an_entry).number c.index-labels-entries.result) c.as_slice-labels.ensures c.index-labels-entries.is in
    let none = subst (λ t. covers_by c.self.inside.judge.site.inst.now (leaf_of c.self.inside.judge.site) c.index-labels-entries.result c.self.inside.target c.args.level t → ⊥) (sym c.in-Some.ensures.some.1) c.in-None.ensures.none in
    left_next g (leaf_of j.site) j.site.section.now.labels a j.entries.now c.self.invariant.judge.entries c.first-begin.result c.loop-entries.at an_entry tells.0
    (misses_of g (leaf_of j.site) j.site.section.now.labels a j.entries.now c.self.invariant.judge.entries c.loop-entries.at an_entry c.index-labels-entries.result tells.0 listed none) c.loop-entries.invariant

pub returns-clause-none : goal.returns-clause-none
returns-clause-none c =
    let j = c.self.inside.judge in
    let g = c.self.inside.judge.site.inst.now in
    let tells = subst (λ b. TellsTime c.self.inside.judge.entries.now c.loop-entries.at c.self.inside.target.node c.in-Some.time b) c.loop-entries-test.false c.is_in_time.ensures in
    let a = state_at (customer_count c.self.inside.judge.site.inst.now) c.self.inside.target c.args.level c.in-Some.time in
    let none = left_nothing g (leaf_of j.site) j.site.section.now.labels a j.entries.now c.self.invariant.judge.entries c.first-begin.result c.loop-entries.at refl c.first-begin.ensures.behind tells c.loop-entries.invariant in
    let timed = subst (λ t. IsStateCovered c.self.inside.judge.site.inst.now (leaf_of c.self.inside.judge.site) (state_at (customer_count c.self.inside.judge.site.inst.now) c.self.inside.target c.args.level t) → ⊥) c.in-Some.ensures.some.1 none in
    subst (λ (q : Asking). covers q c.args.level (time_at (level_times c.args.value.now) c.args.level) → ⊥) c.self.view_is timed

pub bounds-labels-entries : goal.bounds-labels-entries
bounds-labels-entries = grind (arith, common_steps)

pub offset_bounds-labels-entries : goal.offset_bounds-labels-entries
offset_bounds-labels-entries = grind (arith, common_steps)
