use Rattle.std.proofs.Common.{◌≡◌, ◌∙◌, ◌<◌, ◌^◌, ◌+◌, Fits, w64, arith, subst, sym, rules, FitsSigned}
use Rattle.std.specs.Int.{w128}
use Rattle.std.proofs.lemmas.Int.{to_z-of_z}
use Rattle.certificate_parts.specs.Ranges.{customer_count}
use Rattle.customer_sets.specs.CustSet.{IsWithin}
use Rattle.dominance.specs.Coverage.{Reaches}
use Rattle.dominance.specs.LevelTimes.{time_at}
use Rattle.piece_fn.specs.PieceFn.{IsReach, level_times}
use Rattle.label_steps.specs.Covering.{IsCoveredTo}
use Rattle.near_tree.specs.Follows.{StandsFor}
use Rattle.near_tree.specs.Lasts.{last_at}
use Rattle.near_tree.specs.Preorder.{last_of}
use Rattle.near_tree.specs.Sites.{leaf_of}
use Rattle.near_tree.specs.Targets.{covers_by}
use Rattle.near_tree.proofs.CoveredStates.{pays_not, reach_covers, reaches_not}
use Rattle.label_index.proofs.Options.{none_map, some_map}
use Rattle.near_tree.proofs.Standing.{stands_by, stands_not_by}
use Rattle.near_tree.proofs.judge.Judge.reach_by.Goals as goal

pub returns-in-Some-clause-some : goal.returns-in-Some-clause-some
returns-in-Some-clause-some c =
    let g = c.args.self.now.site.inst.now in
    let f = leaf_of c.args.self.now.site in
    let apart = c.if-label-target.false in
    let node : c.args.label.now.node ≡ c.args.target.now.node = grind (arith, apart) in
    let within : IsWithin c.args.label.now.memory c.args.target.now.memory = c.is_subset.ensures.0 c.if-not-is_subset.false in
    let own : FitsSigned w128 c.args.label.now.earned = search rules in
    let theirs : FitsSigned w128 c.args.target.now.earned = search rules in
    let some = simp to_z-of_z at c.in-Some.ensures.some in
    let stands : StandsFor c.args.self.now.site.inst.now (leaf_of c.args.self.now.site).branch (leaf_of c.args.self.now.site).section (last_of c.args.label.now.last) (last_at (customer_count c.args.self.now.site.inst.now) c.args.target.now.last) =
    stands_by c.args.self.now.site.inst.now (leaf_of c.args.self.now.site) c.args.self.now.stands.now c.last_place-last.result c.args.target.now.last (last_of c.args.label.now.last) c.requires.judge.stands
    (subst (λ n. c.last_place-last.result < n + 2) c.customers.ensures.value c.last_place-last.ensures.within) c.requires.last
    (subst (λ n. last_at n c.last_place-last.result ≡ last_of c.args.label.now.last) c.customers.ensures.value c.last_place-last.ensures.value)
    c.index-self-last.result (sym c.has.ensures.value ∙ c.if-not-has.false) in
    some_map (λ to. IsReach (level_times c.args.label.now.value) (level_times c.args.value.now) c.in-Some.extra c.args.level to) (IsCoveredTo (covers_by c.args.self.now.site.inst.now (leaf_of c.args.self.now.site) c.args.label.now c.args.target.now) (level_times c.args.value.now) c.args.level) c.reach.result
    (λ to r. reach_covers g f c.args.label.now c.args.target.now c.args.value.now c.in-Some.extra c.args.level to node stands within some r) c.reach.ensures.some

pub returns-in-Some-clause-none : goal.returns-in-Some-clause-none
returns-in-Some-clause-none c =
    let g = c.args.self.now.site.inst.now in
    let f = leaf_of c.args.self.now.site in
    let own : FitsSigned w128 c.args.label.now.earned = search rules in
    let theirs : FitsSigned w128 c.args.target.now.earned = search rules in
    let some = simp to_z-of_z at c.in-Some.ensures.some in
    none_map (Reaches (level_times c.args.label.now.value) c.in-Some.extra c.args.level (time_at (level_times c.args.value.now) c.args.level) → ⊥)
    (covers_by c.args.self.now.site.inst.now (leaf_of c.args.self.now.site) c.args.label.now c.args.target.now c.args.level (time_at (level_times c.args.value.now) c.args.level) → ⊥) c.reach.result
    (λ none. reaches_not g f c.args.label.now c.args.target.now c.args.level (time_at (level_times c.args.value.now) c.args.level) c.in-Some.extra some none) c.reach.ensures.none

pub returns-in-None-clause-none : goal.returns-in-None-clause-none
returns-in-None-clause-none c =
    let fits : Fits w64 c.args.time = c.ranges.time in
    let early : time_at (level_times c.args.value.now) c.args.level < 2 ^ 64 = omega (arith, fits, c.requires.time) in
    let own : FitsSigned w128 c.args.label.now.earned = search rules in
    let theirs : FitsSigned w128 c.args.target.now.earned = search rules in
    let none = simp to_z-of_z at c.in-None.ensures.none in
    pays_not c.args.self.now.site.inst.now (leaf_of c.args.self.now.site) c.args.label.now c.args.target.now c.args.level (time_at (level_times c.args.value.now) c.args.level) none early

pub returns-then-not-has-clause-none : goal.returns-then-not-has-clause-none
returns-then-not-has-clause-none c = λ covered.
    stands_not_by c.args.self.now.site.inst.now (leaf_of c.args.self.now.site) c.args.self.now.stands.now c.last_place-last.result c.args.target.now.last (last_of c.args.label.now.last) c.requires.judge.stands
    (subst (λ n. c.last_place-last.result < n + 2) c.customers.ensures.value c.last_place-last.ensures.within) c.requires.last
    (subst (λ n. last_at n c.last_place-last.result ≡ last_of c.args.label.now.last) c.customers.ensures.value c.last_place-last.ensures.value)
    c.index-self-last.result (sym c.has.ensures.value ∙ c.if-not-has.true) covered.last
