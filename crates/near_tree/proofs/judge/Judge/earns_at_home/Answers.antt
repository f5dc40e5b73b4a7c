use Rattle.std.proofs.Common.{◌≡◌, ◌∙◌, ◌<◌, ◌+◌, ℕ, List, Option, Some, max, ap, sym, subst, arith, rules, FitsSigned}
use Rattle.std.specs.Int.{w128}
use Rattle.std.proofs.lemmas.Int.{to_z-of_z}
use Rattle.certificate_parts.specs.Ranges.{customer_count}
use Rattle.near_tree.specs.Lasts.{last_at}
use Rattle.dominance.specs.LevelTimes.{time_at}
use Rattle.ev_model.specs.Network.{energy, node_count, scaled_limit}
use Rattle.piece_fn.specs.PieceFn.{level_times}
use Rattle.label_steps.specs.Arrivals.{drive_time, ArrivesAs, IsArrival}
use Rattle.near_tree.specs.Preorder.{last_of, leaf_label}
use Rattle.near_tree.specs.Sites.{leaf_of}
use Rattle.near_tree.proofs.Fits.{label_within_full}
use Rattle.near_tree.proofs.HomeSteps.{home_told, may_not_end}
use Rattle.near_tree.proofs.Standing.{may_by_row, may_not_by_row}
use Rattle.near_tree.proofs.judge.Judge.earns_at_home.Goals as goal

pub arrival-requires-clause-levels : goal.arrival-requires-clause-levels
arrival-requires-clause-levels c = label_within_full c.args.self.now.site.inst.now c.args.label.now c.requires.label

pub returns-then-not-has : goal.returns-then-not-has
returns-then-not-has c =
    may_not_end c.args.self.now.site.inst.now (leaf_of c.args.self.now.site) (leaf_label c.args.label.now)
    (λ next. may_not_by_row (customer_count c.args.self.now.site.inst.now) c.args.self.now.site.path.now c.args.self.now.may.now c.last_place-last.result 0 (last_of c.args.label.now.last) c.requires.judge.may
    (subst (λ n. c.last_place-last.result < n + 2) c.customers.ensures.value c.last_place-last.ensures.within) (omega arith)
    (subst (λ n. last_at n c.last_place-last.result ≡ last_of c.args.label.now.last) c.customers.ensures.value c.last_place-last.ensures.value)
    c.index-self-last.result (sym c.has.ensures.value ∙ c.if-not-has.true) next)

pub returns-in-Some : goal.returns-in-Some
returns-in-Some c =
    let g = c.args.self.now.site.inst.now in
    let f = leaf_of c.args.self.now.site in
    let l = c.args.label.now in
    let fits : FitsSigned w128 c.args.label.now.earned = search rules in
    let told = simp to_z-of_z at c.earns.ensures in
    let named : ArrivesAs c.args.self.now.site.inst.now c.args.label.now.value c.args.label.now.node 0 c.max-least.result (Some c.in-Some.value) = subst (λ (o : Option (List (ℕ × ℕ))). ArrivesAs c.args.self.now.site.inst.now c.args.label.now.value c.args.label.now.node 0 c.max-least.result o) c.in-Some.is c.in_ok-value.ensures.left in
    let least : c.max-least.result ≡ max c.args.self.now.site.inst.now.reserve c.args.self.now.site.inst.now.home_level = omega (arith, c.min_q.ensures.value, c.home_q.ensures.value, c.max-least.ensures) in
    let arrival = subst (λ r. IsArrival (energy c.args.self.now.site.inst.now c.args.label.now.node 0) (drive_time c.args.self.now.site.inst.now c.args.label.now.node 0) (scaled_limit c.args.self.now.site.inst.now) r (level_times c.args.label.now.value) (level_times c.in-Some.value)) least named in
    let known : 0 < node_count c.args.self.now.site.inst.now = (let node = c.requires.label.node in omega (arith, node)) in
    let time : c.least.result.1 ≡ time_at (level_times c.in-Some.value) (level_times c.in-Some.value).first = c.least.ensures.time ∙ ap (λ y. time_at (level_times c.in-Some.value) y) c.least.ensures.level in
    let next = may_by_row (customer_count c.args.self.now.site.inst.now) c.args.self.now.site.path.now c.args.self.now.may.now c.last_place-last.result 0 (last_of c.args.label.now.last) c.requires.judge.may
    (subst (λ n. c.last_place-last.result < n + 2) c.customers.ensures.value c.last_place-last.ensures.within) (omega arith)
    (subst (λ n. last_at n c.last_place-last.result ≡ last_of c.args.label.now.last) c.customers.ensures.value c.last_place-last.ensures.value)
    c.index-self-last.result (sym c.has.ensures.value ∙ c.if-not-has.false) in
    home_told g f l c.in-Some.value c.least.result.1 arrival c.least.ensures.valid time c.earns.result known (λ e. c.if-label-eq0.false (sym e)) next told
