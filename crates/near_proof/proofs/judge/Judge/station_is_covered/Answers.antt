use Rattle.std.proofs.Common.{ℕ, List, Option, None, Some, subst, refl}
use Rattle.std.specs.Prelude.{IfSome}
use Rattle.ev_model.specs.Network.{energy, scaled_limit}
use Rattle.piece_fn.specs.PieceFn.{level_times}
use Rattle.label_steps.specs.Arrivals.{ArrivesAs, drive_time, IsWithin, NoArrival}
use Rattle.near_proof.proofs.Fits.{label_within_full}
use Rattle.near_proof.specs.Targets.{Asking, TellsEach}
use Rattle.near_proof.specs.declared.coverage.Target.{Target}
use Rattle.near_proof.proofs.LabelSteps.{asked_of, nobody_arrives}
use Rattle.near_proof.proofs.StationSteps.{IsStationTarget, station_told}
use Rattle.near_proof.specs.Judging.{judged}
use Rattle.near_proof.proofs.judge.Judge.station_is_covered.Goals as goal

pub arrival-requires-clause-levels : goal.arrival-requires-clause-levels
arrival-requires-clause-levels c = label_within_full c.args.self.now.inst.now c.args.label.now c.requires.label

pub returns-in_default : goal.returns-in_default
returns-in_default c =
    let none : ArrivesAs c.args.self.now.inst.now c.args.label.now.value c.args.label.now.node c.args.node c.min_q-least.result None = subst (λ (o : Option (List (ℕ × ℕ))). ArrivesAs c.args.self.now.inst.now c.args.label.now.value c.args.label.now.node c.args.node c.min_q-least.result o) c.in_default.is c.in_ok-arrived.ensures.left in
    nobody_arrives c.args.self.now.inst.now (judged c.args.self.now) c.args.label.now c.args.node (subst (λ r. NoArrival (energy c.args.self.now.inst.now c.args.label.now.node c.args.node) (drive_time c.args.self.now.inst.now c.args.label.now.node c.args.node) (scaled_limit c.args.self.now.inst.now) r (level_times c.args.label.now.value)) c.min_q-least.ensures.value none)

pub departures-requires-clause-levels : goal.departures-requires-clause-levels
departures-requires-clause-levels c =
    let within : IsWithin c.args.self.now.inst.now c.in-Some.arrived = subst (λ (o : Option (List (ℕ × ℕ))). IfSome o (IsWithin c.args.self.now.inst.now)) c.in-Some.is c.in_ok-arrived.ensures.within in
    within.levels

pub returns : goal.returns
returns c =
    let g = c.args.self.now.inst.now in
    let j = (judged c.args.self.now) in
    let l = c.args.label.now in
    let x = c.args.node in
    let within : IsWithin c.args.self.now.inst.now c.in-Some.arrived = subst (λ (o : Option (List (ℕ × ℕ))). IfSome o (IsWithin c.args.self.now.inst.now)) c.in-Some.is c.in_ok-arrived.ensures.within in
    let named : ArrivesAs c.args.self.now.inst.now c.args.label.now.value c.args.label.now.node c.args.node c.min_q-least.result (Some c.in-Some.arrived) = subst (λ (o : Option (List (ℕ × ℕ))). ArrivesAs c.args.self.now.inst.now c.args.label.now.value c.args.label.now.node c.args.node c.min_q-least.result o) c.in-Some.is c.in_ok-arrived.ensures.left in
    let arrival = subst (λ r. ArrivesAs c.args.self.now.inst.now c.args.label.now.value c.args.label.now.node c.args.node r (Some c.in-Some.arrived)) c.min_q-least.ensures.value named in
    let t : Target = record { node = c.args.node; memory = c.args.label.now.memory; count = c.args.label.now.count; earned = c.args.label.now.earned } in
    let target : IsStationTarget l t.node t = record { node = refl; memory = refl; count = refl; earned = refl } in
    station_told g j l x t target c.requires.station c.in-Some.arrived arrival c.in_ok-values.values.items c.requires.known c.requires.moves c.in_ok-values.ensures.left c.in_ok-values.ensures.covers within c.covers_each.result
    (subst (λ (vs : List (List (ℕ × ℕ))). TellsEach (asked_of (judged c.args.self.now) t) vs c.covers_each.result) c.deref.ensures.value (subst (λ (a : Asking). TellsEach a c.deref.result.now c.covers_each.result) c.asked.ensures c.covers_each.ensures))
