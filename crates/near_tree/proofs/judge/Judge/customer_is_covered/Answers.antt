use Rattle.std.proofs.Common.{◌≡◌, ◌∙◌, ◌<◌, ◌+◌, ℕ, List, Option, None, Some, sym, subst, arith, refl}
use Rattle.certificate_parts.specs.Ranges.{customer_count}
use Rattle.ev_model.specs.Network.{energy, scaled_limit}
use Rattle.fleet_model.specs.Places.{place_of}
use Rattle.fleet_model.proofs.Numbers.{numbered}
use Rattle.piece_fn.specs.PieceFn.{level_times}
use Rattle.label_steps.specs.Arrivals.{drive_time, ArrivesAs, IsArrival, NoArrival}
use Rattle.label_steps.specs.Covering.{IsCoveredAll, IsMissed}
use Rattle.near_tree.specs.Follows.{MayFollow}
use Rattle.near_tree.specs.Lasts.{last_at}
use Rattle.near_tree.specs.Paths.{branch_at}
use Rattle.near_tree.specs.Preorder.{last_of, leaf_label}
use Rattle.near_tree.specs.Sites.{leaf_of}
use Rattle.near_tree.specs.Targets.{Asking, covers}
use Rattle.near_tree.proofs.Fits.{label_within_full}
use Rattle.near_tree.proofs.LabelSteps.{customer_covered, customer_missed, may_not_follow, nobody_arrives, remembered_already, tells}
use Rattle.near_tree.proofs.Standing.{at_place, may_by_row, may_not_by_row}
use Rattle.near_tree.proofs.judge.Judge.customer_is_covered.Goals as goal

pub returns-then-has : goal.returns-then-has
returns-then-has c =
    remembered_already c.args.self.now.site.inst.now (leaf_of c.args.self.now.site) (leaf_label c.args.label.now) c.args.node c.args.customer c.requires.customer.0 (numbered c.args.self.now.site.inst.now c.args.customer c.args.node c.requires.customer.1) (sym c.if-has.ensures.value)

pub arrival-requires-clause-levels : goal.arrival-requires-clause-levels
arrival-requires-clause-levels c = label_within_full c.args.self.now.site.inst.now c.args.label.now c.requires.label

pub returns-in_default : goal.returns-in_default
returns-in_default c =
    let none : ArrivesAs c.args.self.now.site.inst.now c.args.label.now.value c.args.label.now.node c.args.node c.min_q-least.result None = subst (λ (o : Option (List (ℕ × ℕ))). ArrivesAs c.args.self.now.site.inst.now c.args.label.now.value c.args.label.now.node c.args.node c.min_q-least.result o) c.in_default.is c.in_ok-value.ensures.left in
    nobody_arrives c.args.self.now.site.inst.now (leaf_of c.args.self.now.site) (leaf_label c.args.label.now) c.args.node c.args.label.now.value refl refl (subst (λ r. NoArrival (energy c.args.self.now.site.inst.now c.args.label.now.node c.args.node) (drive_time c.args.self.now.site.inst.now c.args.label.now.node c.args.node) (scaled_limit c.args.self.now.site.inst.now) r (level_times c.args.label.now.value)) c.min_q-least.ensures.value none)

pub returns-then-not-has : goal.returns-then-not-has
returns-then-not-has c =
    let number = numbered c.args.self.now.site.inst.now c.args.customer c.args.node c.requires.customer.1 in
    let place : place_of c.args.self.now.site.inst.now c.args.node ≡ c.args.customer + 1 = at_place c.args.self.now.site.inst.now c.args.node c.args.customer c.requires.customer.0 number in
    may_not_follow c.args.self.now.site.inst.now (leaf_of c.args.self.now.site) (leaf_label c.args.label.now) c.args.node c.requires.customer.0
    (λ next. may_not_by_row (customer_count c.args.self.now.site.inst.now) c.args.self.now.site.path.now c.args.self.now.may.now c.last_place-last.result (c.args.customer + 1) (last_of c.args.label.now.last) c.requires.judge.may
    (subst (λ n. c.last_place-last.result < n + 2) c.customers.ensures.value c.last_place-last.ensures.within) (omega (arith, c.requires.listed))
    (subst (λ n. last_at n c.last_place-last.result ≡ last_of c.args.label.now.last) c.customers.ensures.value c.last_place-last.ensures.value)
    c.index-self-last.result (sym c.has-2.ensures.value ∙ c.if-not-has.true) (subst (MayFollow (branch_at c.args.self.now.site.path.now) (last_of c.args.label.now.last)) place next))

pub returns : goal.returns
returns c =
    let g = c.args.self.now.site.inst.now in
    let f = leaf_of c.args.self.now.site in
    let l = c.args.label.now in
    let x = c.args.node in
    let n = c.args.customer in
    let w = c.in-Some.value in
    let t = c.after_service-target.result in
    let number = numbered g n x c.requires.customer.1 in
    let named : ArrivesAs c.args.self.now.site.inst.now c.args.label.now.value c.args.label.now.node c.args.node c.min_q-least.result (Some c.in-Some.value) = subst (λ (o : Option (List (ℕ × ℕ))). ArrivesAs c.args.self.now.site.inst.now c.args.label.now.value c.args.label.now.node c.args.node c.min_q-least.result o) c.in-Some.is c.in_ok-value.ensures.left in
    let arrival : IsArrival (energy c.args.self.now.site.inst.now c.args.label.now.node c.args.node) (drive_time c.args.self.now.site.inst.now c.args.label.now.node c.args.node) (scaled_limit c.args.self.now.site.inst.now) c.args.self.now.site.inst.now.reserve (level_times c.args.label.now.value) (level_times c.in-Some.value) = subst (λ r. IsArrival (energy c.args.self.now.site.inst.now c.args.label.now.node c.args.node) (drive_time c.args.self.now.site.inst.now c.args.label.now.node c.args.node) (scaled_limit c.args.self.now.site.inst.now) r (level_times c.args.label.now.value) (level_times c.in-Some.value)) c.min_q-least.ensures.value named in
    let next = may_by_row (customer_count c.args.self.now.site.inst.now) c.args.self.now.site.path.now c.args.self.now.may.now c.last_place-last.result (c.args.customer + 1) (last_of c.args.label.now.last) c.requires.judge.may
    (subst (λ n. c.last_place-last.result < n + 2) c.customers.ensures.value c.last_place-last.ensures.within) (omega (arith, c.requires.listed))
    (subst (λ n. last_at n c.last_place-last.result ≡ last_of c.args.label.now.last) c.customers.ensures.value c.last_place-last.ensures.value)
    c.index-self-last.result (sym c.has-2.ensures.value ∙ c.if-not-has.false) in
    tells g f (leaf_label l) x c.covers_value.result
    (λ is. customer_covered g f l x n t w c.requires.known c.requires.customer.0 number c.after_service-target.ensures.served arrival (subst (λ (a : Asking). IsCoveredAll (covers a) (level_times c.in-Some.value)) c.asked.ensures (c.covers_value.ensures.covered is)))
    (λ isnt. customer_missed g f l x n t w c.requires.known c.requires.customer.0 number c.after_service-target.ensures.served arrival c.requires.moves (sym c.has.ensures.value ∙ c.if-has.false) next (subst (λ (a : Asking). IsMissed (covers a) (level_times c.in-Some.value)) c.asked.ensures (c.covers_value.ensures.missed isnt)))
