use Rattle.std.proofs.Common.{◌≡◌, ◌∙◌, ℕ, List, Option, None, Some, length, ap, sym, subst, arith}
use Rattle.ev_model.specs.Network.{energy, scaled_limit}
use Rattle.fleet_model.specs.Places.{customer_count}
use Rattle.fleet_model.proofs.Numbers.{counted, numbered}
use Rattle.piece_fn.specs.PieceFn.{level_times}
use Rattle.label_steps.specs.Arrivals.{drive_time, ArrivesAs, IsArrival, NoArrival}
use Rattle.label_steps.specs.Covering.{IsCoveredAll, IsMissed}
use Rattle.near_proof.proofs.Fits.{label_within_full}
use Rattle.near_proof.specs.Targets.{Asking, covers}
use Rattle.near_proof.proofs.LabelSteps.{customer_covered, customer_missed, nobody_arrives, remembered_already, served_enough, tells}
use Rattle.near_proof.specs.Judging.{judged}
use Rattle.near_proof.proofs.judge.Judge.customer_is_covered.Goals as goal

pub returns-then-has : goal.returns-then-has
returns-then-has c =
    remembered_already c.args.self.now.inst.now (judged c.args.self.now) c.args.label.now c.args.node c.args.customer c.requires.customer.0 (numbered c.args.self.now.inst.now c.args.customer c.args.node c.requires.customer.1) (sym c.if-has.ensures.value)

pub returns-then-label-customers : goal.returns-then-label-customers
returns-then-label-customers c =
    let enough = c.if-label-customers.true in
    let count : length c.customers.result.now ≡ customer_count c.args.self.now.inst.now = ap length c.customers.ensures.value ∙ counted c.args.self.now.inst.now in
    served_enough c.args.self.now.inst.now (judged c.args.self.now) c.args.label.now c.args.node c.requires.customer.0 (omega (arith, enough, count))

pub arrival-requires-clause-levels : goal.arrival-requires-clause-levels
arrival-requires-clause-levels c = label_within_full c.args.self.now.inst.now c.args.label.now c.requires.label

pub returns-in_default : goal.returns-in_default
returns-in_default c =
    let g = c.args.self.now.inst.now in
    let none : ArrivesAs c.args.self.now.inst.now c.args.label.now.value c.args.label.now.node c.args.node c.min_q-least.result None = subst (λ (o : Option (List (ℕ × ℕ))). ArrivesAs c.args.self.now.inst.now c.args.label.now.value c.args.label.now.node c.args.node c.min_q-least.result o) c.in_default.is c.in_ok-value.ensures.left in
    nobody_arrives c.args.self.now.inst.now (judged c.args.self.now) c.args.label.now c.args.node (subst (λ r. NoArrival (energy c.args.self.now.inst.now c.args.label.now.node c.args.node) (drive_time c.args.self.now.inst.now c.args.label.now.node c.args.node) (scaled_limit c.args.self.now.inst.now) r (level_times c.args.label.now.value)) c.min_q-least.ensures.value none)

pub returns : goal.returns
returns c =
    let g = c.args.self.now.inst.now in
    let j = (judged c.args.self.now) in
    let l = c.args.label.now in
    let x = c.args.node in
    let n = c.args.customer in
    let w = c.in-Some.value in
    let t = c.after_service-target.result in
    let number = numbered g n x c.requires.customer.1 in
    let named : ArrivesAs c.args.self.now.inst.now c.args.label.now.value c.args.label.now.node c.args.node c.min_q-least.result (Some c.in-Some.value) = subst (λ (o : Option (List (ℕ × ℕ))). ArrivesAs c.args.self.now.inst.now c.args.label.now.value c.args.label.now.node c.args.node c.min_q-least.result o) c.in-Some.is c.in_ok-value.ensures.left in
    let arrival : IsArrival (energy c.args.self.now.inst.now c.args.label.now.node c.args.node) (drive_time c.args.self.now.inst.now c.args.label.now.node c.args.node) (scaled_limit c.args.self.now.inst.now) c.args.self.now.inst.now.reserve (level_times c.args.label.now.value) (level_times c.in-Some.value) = subst (λ r. IsArrival (energy c.args.self.now.inst.now c.args.label.now.node c.args.node) (drive_time c.args.self.now.inst.now c.args.label.now.node c.args.node) (scaled_limit c.args.self.now.inst.now) r (level_times c.args.label.now.value) (level_times c.in-Some.value)) c.min_q-least.ensures.value named in
    let few = c.if-label-customers.false in
    let count : length c.customers.result.now ≡ customer_count c.args.self.now.inst.now = ap length c.customers.ensures.value ∙ counted g in
    tells g j l x c.covers_value.result
    (λ is. customer_covered g j l x n t w c.requires.customer.0 number c.after_service-target.ensures arrival (subst (λ (a : Asking). IsCoveredAll (covers a) (level_times c.in-Some.value)) c.asked.ensures (c.covers_value.ensures.covered is)))
    (λ isnt. customer_missed g j l x n t w c.requires.customer.0 number c.after_service-target.ensures arrival c.requires.known c.requires.moves (sym c.has.ensures.value ∙ c.if-has.false) (omega (arith, few, count)) (subst (λ (a : Asking). IsMissed (covers a) (level_times c.in-Some.value)) c.asked.ensures (c.covers_value.ensures.missed isnt)))
