use Rattle.std.proofs.Common.{◌≡◌, ◌∙◌, ◌≤◌, ℕ, List, Option, None, Some, sym, subst, arith, refl, FitsSigned, to_z, of_z}
use Rattle.std.proofs.lemmas.Grind.{common_steps}
use Rattle.std.specs.Int.{w128}
use Rattle.std.specs.Prelude.{IfSome}
use Rattle.std.proofs.lemmas.Int.{ints}
use Rattle.dominance.specs.LevelTimes.{IsLevel}
use Rattle.ev_model.specs.Network.{energy, scaled_limit}
use Rattle.piece_fn.specs.PieceFn.{level_times}
use Rattle.label_steps.specs.Arrivals.{ArrivesAs, drive_time, IsWithin, NoArrival}
use Rattle.label_steps.specs.Leaves.{AreLeft, CoverCharges}
use Rattle.closed_lists.specs.Asking.{Asking}
use Rattle.closed_lists.specs.Questions.{Question, section}
use Rattle.closed_lists.specs.Targets.{TellsEach}
use Rattle.closed_lists.specs.declared.coverage.Target.{Target}
use Rattle.closed_lists.proofs.LabelSteps.{nobody_arrives}
use Rattle.closed_lists.proofs.StationSteps.{IsStationTarget, station_told}
use Rattle.closed_lists.proofs.question.Question.station_is_covered.Goals as goal

pub returns-in_default : goal.returns-in_default
returns-in_default c =
    let none : ArrivesAs c.args.self.now.network c.args.label.now.value c.args.label.now.node c.args.node c.reserve.result None = subst (λ (o : Option (List (ℕ × ℕ))). ArrivesAs c.args.self.now.network c.args.label.now.value c.args.label.now.node c.args.node c.reserve.result o) c.in_default.is c.in_ok-arrived.ensures.left in
    nobody_arrives c.args.self.now c.args.label.now c.args.node (subst (λ r. NoArrival (energy c.args.self.now.network c.args.label.now.node c.args.node) (drive_time c.args.self.now.network c.args.label.now.node c.args.node) (scaled_limit c.args.self.now.network) r (level_times c.args.label.now.value)) c.reserve.ensures.value none)

pub departures-requires-clause-levels : goal.departures-requires-clause-levels
departures-requires-clause-levels c =
    let within : IsWithin c.args.self.now.network c.in-Some.arrived = subst (λ (o : Option (List (ℕ × ℕ))). IfSome o (IsWithin c.args.self.now.network)) c.in-Some.is c.in_ok-arrived.ensures.within in
    subst (λ (q : Question). (level : ℕ) → IsLevel (level_times c.in-Some.arrived) level → level ≤ q.network.capacity) (sym c.self.view_is) within.levels

pub returns : goal.returns
returns c =
    let q = c.args.self.now in
    let l = c.args.label.now in
    let x = c.args.node in
    let within : IsWithin c.args.self.now.network c.in-Some.arrived = subst (λ (o : Option (List (ℕ × ℕ))). IfSome o (IsWithin c.args.self.now.network)) c.in-Some.is c.in_ok-arrived.ensures.within in
    let named : ArrivesAs c.args.self.now.network c.args.label.now.value c.args.label.now.node c.args.node c.reserve.result (Some c.in-Some.arrived) = subst (λ (o : Option (List (ℕ × ℕ))). ArrivesAs c.args.self.now.network c.args.label.now.value c.args.label.now.node c.args.node c.reserve.result o) c.in-Some.is c.in_ok-arrived.ensures.left in
    let arrival = subst (λ r. ArrivesAs c.args.self.now.network c.args.label.now.value c.args.label.now.node c.args.node r (Some c.in-Some.arrived)) c.reserve.ensures.value named in
    let left = subst (λ (q : Question). AreLeft q.network c.args.node c.in-Some.arrived c.in_ok-values.values.items) c.self.view_is c.in_ok-values.ensures.left in
    let covers = subst (λ (q : Question). CoverCharges q.network c.args.node c.in-Some.arrived c.in_ok-values.values.items) c.self.view_is c.in_ok-values.ensures.covers in
    let paid_fits : FitsSigned w128 c.args.paid = c.ranges.paid in
    let whole : to_z w128 (of_z w128 c.args.paid) ≡ c.args.paid = omega (arith, ints) in
    let t : Target = record { last = c.args.label.now.last; node = c.args.node; set = c.args.label.now.set; paid = to_z w128 (of_z w128 c.args.paid) } in
    let target : IsStationTarget q l x t = record { last = refl; node = refl; set = refl; paid = whole ∙ c.requires.paid } in
    station_told q l x t target c.requires.station c.in-Some.arrived arrival c.in_ok-values.values.items c.requires.known c.requires.moves left covers within c.covers_each.result (subst (λ (vs : List (List (ℕ × ℕ))). TellsEach (section c.args.self.now) t vs c.covers_each.result) c.deref.ensures.value (subst (λ (a : Asking). TellsEach (section a.question) a.target c.deref.result.now c.covers_each.result) c.asked.ensures c.covers_each.ensures))

pub departures-requires-clause-node : goal.departures-requires-clause-node
departures-requires-clause-node = grind (arith, common_steps)
