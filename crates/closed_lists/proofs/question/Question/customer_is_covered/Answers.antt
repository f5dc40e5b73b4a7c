use Rattle.std.proofs.Common.{◌≡◌, ◌∙◌, ◌≤◌, ◌^◌, ℕ, List, Option, None, Some, ap, sym, subst, arith, rules, refl, unsigned_abs, ◌+ℤ◌, FitsSigned, to_z, of_z}
use Rattle.std.specs.Int.{w128}
use Rattle.std.proofs.lemmas.Int.{ints, to_z-of_z}
use Rattle.ev_model.specs.Network.{energy, scaled_limit}
use Rattle.fleet_model.specs.Prices.{price_of}
use Rattle.fleet_model.proofs.Numbers.{numbered}
use Rattle.piece_fn.specs.PieceFn.{level_times}
use Rattle.label_steps.specs.Arrivals.{drive_time, ArrivesAs, IsArrival, NoArrival}
use Rattle.label_steps.specs.Covering.{IsCoveredAll, IsMissed}
use Rattle.closed_lists.specs.Asking.{Asking, covers}
use Rattle.closed_lists.specs.declared.coverage.Target.{Target}
use Rattle.closed_lists.proofs.LabelSteps.{customer_covered, customer_missed, IsCustomerTarget, may_not_follow, nobody_arrives, served_already, tells}
use Rattle.closed_lists.proofs.question.Question.customer_is_covered.Goals as goal

pub returns-then-has : goal.returns-then-has
returns-then-has c =
    served_already c.args.self.now c.args.label.now c.args.node c.args.customer c.requires.customer.0 (numbered c.args.self.now.network c.args.customer c.args.node c.requires.customer.1) (sym c.if-has.ensures.value)

pub returns-then-not-allows : goal.returns-then-not-allows
returns-then-not-allows c =
    may_not_follow c.args.self.now c.args.label.now c.args.node c.requires.customer.0 (sym c.allows.ensures ∙ c.if-not-allows.true)

pub returns-in_default : goal.returns-in_default
returns-in_default c =
    let none : ArrivesAs c.args.self.now.network c.args.label.now.value c.args.label.now.node c.args.node c.reserve.result None = subst (λ (o : Option (List (ℕ × ℕ))). ArrivesAs c.args.self.now.network c.args.label.now.value c.args.label.now.node c.args.node c.reserve.result o) c.in_default.is c.in_ok-value.ensures.left in
    nobody_arrives c.args.self.now c.args.label.now c.args.node (subst (λ r. NoArrival (energy c.args.self.now.network c.args.label.now.node c.args.node) (drive_time c.args.self.now.network c.args.label.now.node c.args.node) (scaled_limit c.args.self.now.network) r (level_times c.args.label.now.value)) c.reserve.ensures.value none)

pub asked-requires-clause-paid : goal.asked-requires-clause-paid
asked-requires-clause-paid c =
    let fits : FitsSigned w128 c.paid_with.result = search rules in
    let whole : to_z w128 (of_z w128 c.paid_with.result) ≡ c.paid_with.result = omega (arith, ints) in
    subst (λ z. unsigned_abs z ≤ 2 ^ 92) (sym whole) c.paid_with.ensures.small

pub returns : goal.returns
returns c =
    let g = c.args.self.now.network in
    let q = c.args.self.now in
    let l = c.args.label.now in
    let x = c.args.node in
    let n = c.args.customer in
    let w = c.in-Some.value in
    let fits : FitsSigned w128 c.paid_with.result = search rules in
    let whole : to_z w128 (of_z w128 c.paid_with.result) ≡ c.paid_with.result = omega (arith, ints) in
    let paid_fits : FitsSigned w128 c.args.paid = c.ranges.paid in
    let value : c.paid_with.result ≡ price_of c.args.self.now.prices c.args.customer +ℤ c.args.paid = simp to_z-of_z at c.paid_with.ensures.value in
    let t : Target = record { last = c.args.node; node = c.args.node; set = c.with.result; paid = to_z w128 (of_z w128 c.paid_with.result) } in
    let is_target : IsCustomerTarget q l x n t = record {
      customer = c.requires.customer.0;
      number = numbered g n x c.requires.customer.1;
      last = refl;
      node = refl;
      set = c.with.ensures.members;
      paid = whole ∙ value ∙ ap (λ p. price_of c.args.self.now.prices c.args.customer +ℤ p) c.requires.paid;
    } in
    let named : ArrivesAs c.args.self.now.network c.args.label.now.value c.args.label.now.node c.args.node c.reserve.result (Some c.in-Some.value) = subst (λ (o : Option (List (ℕ × ℕ))). ArrivesAs c.args.self.now.network c.args.label.now.value c.args.label.now.node c.args.node c.reserve.result o) c.in-Some.is c.in_ok-value.ensures.left in
    let arrival : IsArrival (energy c.args.self.now.network c.args.label.now.node c.args.node) (drive_time c.args.self.now.network c.args.label.now.node c.args.node) (scaled_limit c.args.self.now.network) c.args.self.now.network.reserve (level_times c.args.label.now.value) (level_times c.in-Some.value) = subst (λ r. IsArrival (energy c.args.self.now.network c.args.label.now.node c.args.node) (drive_time c.args.self.now.network c.args.label.now.node c.args.node) (scaled_limit c.args.self.now.network) r (level_times c.args.label.now.value) (level_times c.in-Some.value)) c.reserve.ensures.value named in
    tells q l x c.covers_all.result (λ is. customer_covered q l x n t w is_target arrival (subst (λ (a : Asking). IsCoveredAll (covers a) (level_times c.in-Some.value)) c.asked.ensures (c.covers_all.ensures.covered is)))
    (λ isnt. customer_missed q l x n t w is_target arrival c.requires.known c.requires.moves (sym c.has.ensures.value ∙ c.if-has.false) (sym c.allows.ensures ∙ c.if-not-allows.false) (subst (λ (a : Asking). IsMissed (covers a) (level_times c.in-Some.value)) c.asked.ensures (c.covers_all.ensures.missed isnt)))
