use Rattle.std.proofs.Common.{◌≡◌, ◌∙◌, ◌-◌, ◌*◌, ◌<◌, ◌≤◌, ◌^◌, Fits, w64, ℕ, List, ap, arith, sym, subst, rules, pos, ◌+ℤ◌, ◌-ℤ◌, ◌<ℤ◌, ◌≤ℤ◌, FitsSigned, to_z, of_z}
use Rattle.std.proofs.lemmas.Grind.{common_steps}
use Rattle.std.specs.Int.{w128}
use Rattle.std.specs.List.{Contains}
use Rattle.std.specs.Prelude.{slice_index_or}
use Rattle.std.proofs.lemmas.Int.{ints, to_z-of_z}
use Rattle.customer_sets.specs.CustSet.{IsWithin}
use Rattle.dominance.specs.Coverage.{Reaches}
use Rattle.dominance.specs.LevelTimes.{time_at}
use Rattle.ev_model.specs.Network.{node_count}
use Rattle.fleet_model.specs.Margins.{Covers, IsMargin}
use Rattle.fleet_model.specs.Prices.{price_sum}
use Rattle.piece_fn.specs.PieceFn.{IsReach, level_times}
use Rattle.piece_fn.specs.declared.label.Label.{Label}
use Rattle.closed_lists.specs.Looking.{Misses}
use Rattle.closed_lists.specs.Questions.{section}
use Rattle.closed_lists.specs.Sections.{paid_label}
use Rattle.label_steps.specs.Covering.{IsCoveredTo}
use Rattle.closed_lists.specs.Asking.{Asking, covers}
use Rattle.closed_lists.specs.Targets.{state_of}
use Rattle.closed_lists.proofs.CoveredStates.{entry_tells, in_section, pays_not, reach_covers, reaches_not, too_dear}
use Rattle.label_index.proofs.Options.{none_map, some_map}
use Rattle.closed_lists.proofs.coverage.Asked.reach_of.Goals as goal

pub returns-then-is_too_dear-clause-none : goal.returns-then-is_too_dear-clause-none
returns-then-is_too_dear-clause-none c =
    let own : FitsSigned w128 c.args.entry.now.rest.paid = search rules in
    let theirs : FitsSigned w128 c.self.inside.target.now.paid = search rules in
    let mine : to_z w128 (of_z w128 c.args.entry.now.rest.paid) ≡ c.args.entry.now.rest.paid = omega (arith, ints) in
    let its : to_z w128 (of_z w128 c.self.inside.target.now.paid) ≡ c.self.inside.target.now.paid = omega (arith, ints) in
    let raw = c.is_too_dear.ensures.0 c.if-is_too_dear.true in
    let one = subst (λ p. pos (c.weight-weight.result * (c.args.time - c.args.entry.now.time)) <ℤ (to_z w128 (of_z w128 c.self.inside.target.now.paid) -ℤ p)) mine raw in
    let two = subst (λ p. pos (c.weight-weight.result * (c.args.time - c.args.entry.now.time)) <ℤ (p -ℤ c.args.entry.now.rest.paid)) its one in
    let same_paid : c.self.inside.target.now.paid ≡ c.args.self.now.target.paid = ap (λ (a : Asking). a.target.paid) c.self.view_is in
    let aimed = subst (λ p. pos (c.weight-weight.result * (c.args.time - c.args.entry.now.time)) <ℤ (p -ℤ c.args.entry.now.rest.paid)) same_paid two in
    let weighed = subst (λ w. pos (w * (c.args.time - c.args.entry.now.time)) <ℤ (c.args.self.now.target.paid -ℤ c.args.entry.now.rest.paid)) (c.weight-weight.ensures ∙ ap (λ (a : Asking). a.question.weight) c.self.view_is) aimed in
    let timed = subst (λ t. pos (c.args.self.now.question.weight * (t - c.args.entry.now.time)) <ℤ (c.args.self.now.target.paid -ℤ c.args.entry.now.rest.paid)) c.requires.time weighed in
    too_dear c.args.self.now.question (node_count c.args.self.now.question.network) (state_of c.args.self.now.target c.args.value.now c.args.level) c.args.entry.now c.requires.entry timed

the_margin : (c : goal.After-reach) → IsMargin c.args.self.now.question.weight (price_sum c.args.self.now.question.prices c.label_of.result.now.set) c.args.self.now.target.paid c.in-Some.extra
the_margin c =
    let own : FitsSigned w128 c.args.entry.now.rest.paid = search rules in
    let theirs : FitsSigned w128 c.self.inside.target.now.paid = search rules in
    let told : IsMargin c.weight-weight.result c.args.entry.now.rest.paid c.self.inside.target.now.paid c.in-Some.extra = simp to_z-of_z at c.in-Some.ensures.some in
    let same_paid : c.self.inside.target.now.paid ≡ c.args.self.now.target.paid = ap (λ (a : Asking). a.target.paid) c.self.view_is in
    let aimed = subst (λ p. IsMargin c.weight-weight.result c.args.entry.now.rest.paid p c.in-Some.extra) same_paid told in
    let tells = entry_tells c.args.self.now.question (node_count c.args.self.now.question.network) c.args.entry.now c.label_of.result.now c.requires.entry c.label_of.ensures in
    let priced = subst (λ p. IsMargin c.weight-weight.result p c.args.self.now.target.paid c.in-Some.extra) tells.rest.paid aimed in
    subst (λ w. IsMargin w (price_sum c.args.self.now.question.prices c.label_of.result.now.set) c.args.self.now.target.paid c.in-Some.extra) (c.weight-weight.ensures ∙ ap (λ (a : Asking). a.question.weight) c.self.view_is) priced

pub returns-in-Some-clause-some : goal.returns-in-Some-clause-some
returns-in-Some-clause-some c =
    let q = c.args.self.now.question in
    let t = c.args.self.now.target in
    let value = c.args.value.now in
    let l = c.label_of.result.now in
    let at = c.label_of.ensures l in
    let tells = entry_tells c.args.self.now.question (node_count c.args.self.now.question.network) c.args.entry.now c.label_of.result.now c.requires.entry c.label_of.ensures in
    let inside = subst (λ (k : Label). Contains (section c.args.self.now.question).labels (paid_label c.args.self.now.question.prices k)) (sym at) (in_section q c.args.entry.now.number l c.requires.entry.known) in
    let last = ap (λ (k : Label). k.last) at ∙ c.requires.last l in
    let node = ap (λ (k : Label). k.node) at ∙ c.requires.node l in
    let within = subst (λ (s : List ℕ). IsWithin s c.args.self.now.target.set) tells.rest.set (subst (λ (a : Asking). IsWithin c.args.entry.now.rest.set a.target.set) c.self.view_is (c.is_subset.ensures.0 c.if-not-is_subset.false)) in
    some_map (λ to. IsReach (level_times c.label_of.result.now.value) (level_times c.args.value.now) c.in-Some.extra c.args.level to) (IsCoveredTo (covers c.args.self.now) (level_times c.args.value.now) c.args.level) c.reach.result
    (λ to r. reach_covers q t value l c.in-Some.extra c.args.level to inside last node within (the_margin c) r) c.reach.ensures.some

pub returns-in-Some-clause-none : goal.returns-in-Some-clause-none
returns-in-Some-clause-none c =
    none_map (Reaches (level_times c.label_of.result.now.value) c.in-Some.extra c.args.level (time_at (level_times c.args.value.now) c.args.level) → ⊥)
    (Misses c.args.self.now.question (state_of c.args.self.now.target c.args.value.now c.args.level) c.args.entry.now) c.reach.result
    (λ none d covers. reaches_not c.args.self.now.question c.args.self.now.target c.args.value.now c.label_of.result.now c.args.level c.in-Some.extra (the_margin c) none
    (subst (λ (k : Label). Covers c.args.self.now.question.weight (paid_label c.args.self.now.question.prices k) (state_of c.args.self.now.target c.args.value.now c.args.level)) (sym (c.label_of.ensures d)) covers)) c.reach.ensures.none

pub returns-in-None-clause-none : goal.returns-in-None-clause-none
returns-in-None-clause-none c d covers =
    let own : FitsSigned w128 c.args.entry.now.rest.paid = search rules in
    let theirs : FitsSigned w128 c.self.inside.target.now.paid = search rules in
    let told : (other : ℕ) → c.self.inside.target.now.paid ≤ℤ (c.args.entry.now.rest.paid +ℤ pos (other * c.weight-weight.result)) → 2 ^ 64 ≤ other = simp to_z-of_z at c.in-None.ensures.none in
    let same_paid : c.self.inside.target.now.paid ≡ c.args.self.now.target.paid = ap (λ (a : Asking). a.target.paid) c.self.view_is in
    let aimed = subst (λ t. (other : ℕ) → t ≤ℤ (c.args.entry.now.rest.paid +ℤ pos (other * c.weight-weight.result)) → 2 ^ 64 ≤ other) same_paid told in
    let paid = (c.requires.entry.told d).rest.paid in
    let priced = subst (λ p. (other : ℕ) → c.args.self.now.target.paid ≤ℤ (p +ℤ pos (other * c.weight-weight.result)) → 2 ^ 64 ≤ other) paid aimed in
    let weighed = subst (λ w. (other : ℕ) → c.args.self.now.target.paid ≤ℤ (price_sum c.args.self.now.question.prices (slice_index_or c.args.self.now.question.labels c.args.entry.now.number d).set +ℤ pos (other * w)) → 2 ^ 64 ≤ other) (c.weight-weight.ensures ∙ ap (λ (a : Asking). a.question.weight) c.self.view_is) priced in
    let fits : Fits w64 c.args.time = c.ranges.time in
    let early : time_at (level_times c.args.value.now) c.args.level < 2 ^ 64 = omega (arith, fits, c.requires.time) in
    pays_not c.args.self.now.question c.args.self.now.target c.args.value.now (slice_index_or c.args.self.now.question.labels c.args.entry.now.number d) c.args.level weighed early covers

pub margin-requires-clause-theirs : goal.margin-requires-clause-theirs
margin-requires-clause-theirs = grind (arith, common_steps)

pub margin-requires-clause-own : goal.margin-requires-clause-own
margin-requires-clause-own = grind (arith, common_steps)

pub is_too_dear-requires-clause-own : goal.is_too_dear-requires-clause-own
is_too_dear-requires-clause-own = grind (arith, common_steps)

pub is_too_dear-requires-clause-theirs : goal.is_too_dear-requires-clause-theirs
is_too_dear-requires-clause-theirs = grind (arith, common_steps)
