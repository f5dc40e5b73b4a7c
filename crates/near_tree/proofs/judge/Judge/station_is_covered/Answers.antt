use Rattle.std.proofs.Common.{◌≡◌, ℕ, List, Option, None, Some, subst, refl, arith, rules, FitsSigned, to_z, of_z}
use Rattle.std.specs.Int.{w128}
use Rattle.std.proofs.lemmas.Int.{ints}
use Rattle.std.specs.Prelude.{IfSome}
use Rattle.ev_model.specs.Network.{energy, scaled_limit}
use Rattle.piece_fn.specs.PieceFn.{level_times}
use Rattle.label_steps.specs.Arrivals.{ArrivesAs, drive_time, IsWithin, NoArrival}
use Rattle.near_tree.specs.Lasts.{last_at}
use Rattle.near_tree.specs.Preorder.{last_of, leaf_label}
use Rattle.near_tree.specs.Sites.{leaf_of}
use Rattle.near_tree.specs.Targets.{Asking, covers, covers_at, TellsEach}
use Rattle.near_tree.specs.declared.coverage.Target.{Target}
use Rattle.near_tree.proofs.Fits.{label_within_full}
use Rattle.near_tree.proofs.LabelSteps.{nobody_arrives}
use Rattle.near_tree.proofs.StationSteps.{IsStationTarget, station_told}
use Rattle.near_tree.proofs.judge.Judge.station_is_covered.Goals as goal

pub arrival-requires-clause-levels : goal.arrival-requires-clause-levels
arrival-requires-clause-levels c = label_within_full c.args.self.now.site.inst.now c.args.label.now c.requires.label

pub returns-in_default : goal.returns-in_default
returns-in_default c =
    let none : ArrivesAs c.args.self.now.site.inst.now c.args.label.now.value c.args.label.now.node c.args.node c.min_q-least.result None = subst (λ (o : Option (List (ℕ × ℕ))). ArrivesAs c.args.self.now.site.inst.now c.args.label.now.value c.args.label.now.node c.args.node c.min_q-least.result o) c.in_default.is c.in_ok-arrived.ensures.left in
    nobody_arrives c.args.self.now.site.inst.now (leaf_of c.args.self.now.site) (leaf_label c.args.label.now) c.args.node c.args.label.now.value refl refl (subst (λ r. NoArrival (energy c.args.self.now.site.inst.now c.args.label.now.node c.args.node) (drive_time c.args.self.now.site.inst.now c.args.label.now.node c.args.node) (scaled_limit c.args.self.now.site.inst.now) r (level_times c.args.label.now.value)) c.min_q-least.ensures.value none)

pub departures-requires-clause-levels : goal.departures-requires-clause-levels
departures-requires-clause-levels c =
    let within : IsWithin c.args.self.now.site.inst.now c.in-Some.arrived = subst (λ (o : Option (List (ℕ × ℕ))). IfSome o (IsWithin c.args.self.now.site.inst.now)) c.in-Some.is c.in_ok-arrived.ensures.within in
    within.levels

pub returns : goal.returns
returns c =
    let g = c.args.self.now.site.inst.now in
    let f = leaf_of c.args.self.now.site in
    let l = c.args.label.now in
    let x = c.args.node in
    let within : IsWithin c.args.self.now.site.inst.now c.in-Some.arrived = subst (λ (o : Option (List (ℕ × ℕ))). IfSome o (IsWithin c.args.self.now.site.inst.now)) c.in-Some.is c.in_ok-arrived.ensures.within in
    let named : ArrivesAs c.args.self.now.site.inst.now c.args.label.now.value c.args.label.now.node c.args.node c.min_q-least.result (Some c.in-Some.arrived) = subst (λ (o : Option (List (ℕ × ℕ))). ArrivesAs c.args.self.now.site.inst.now c.args.label.now.value c.args.label.now.node c.args.node c.min_q-least.result o) c.in-Some.is c.in_ok-arrived.ensures.left in
    let arrival = subst (λ r. ArrivesAs c.args.self.now.site.inst.now c.args.label.now.value c.args.label.now.node c.args.node r (Some c.in-Some.arrived)) c.min_q-least.ensures.value named in
    let t : Target = record { node = c.args.node; last = c.last_place.result; memory = c.args.label.now.memory; earned = to_z w128 (of_z w128 c.args.label.now.earned) } in
    let fits : FitsSigned w128 c.args.label.now.earned = search rules in
    let same : to_z w128 (of_z w128 c.args.label.now.earned) ≡ c.args.label.now.earned = omega (arith, ints) in
    let target : IsStationTarget g l t.node t = record { node = refl; last = subst (λ n. last_at n c.last_place.result ≡ last_of c.args.label.now.last) c.customers.ensures.value c.last_place.ensures.value; memory = refl; earned = same } in
    station_told g f l x t target c.requires.station c.in-Some.arrived arrival c.in_ok-values.values.items c.requires.known c.requires.moves c.in_ok-values.ensures.left c.in_ok-values.ensures.covers within c.covers_each.result
    (subst (λ (vs : List (List (ℕ × ℕ))). TellsEach (covers_at c.args.self.now.site.inst.now (leaf_of c.args.self.now.site) t) vs c.covers_each.result) c.deref.ensures.value (subst (λ (a : Asking). TellsEach (covers a) c.deref.result.now c.covers_each.result) c.asked.ensures c.covers_each.ensures))
