use Rattle.std.proofs.Common.{◌≡◌, ◌∙◌, ◌*◌, ◌<◌, ℕ, List, Option, Some, max, ap, sym, subst, arith, pos, ◌<ℤ◌, ◌↔◌, FitsSigned}
use Rattle.std.proofs.lemmas.Grind.{common_steps}
use Rattle.std.specs.Int.{w128}
use Rattle.std.specs.Prelude.{IsTrue}
use Rattle.std.proofs.lemmas.Int.{to_z-of_z}
use Rattle.dominance.specs.LevelTimes.{time_at}
use Rattle.ev_model.specs.Network.{energy, node_count, scaled_limit}
use Rattle.piece_fn.specs.PieceFn.{level_times}
use Rattle.label_steps.specs.Arrivals.{drive_time, ArrivesAs, IsArrival}
use Rattle.closed_lists.specs.Questions.{Question}
use Rattle.closed_lists.proofs.HomeSteps.{home_told}
use Rattle.closed_lists.proofs.question.Question.earns_at_home.Goals as goal

pub returns-in-Some : goal.returns-in-Some
returns-in-Some c =
    let q = c.args.self.now in
    let l = c.args.label.now in
    let named : ArrivesAs c.args.self.now.network c.args.label.now.value c.args.label.now.node 0 c.max-least.result (Some c.in-Some.value) = subst (λ (o : Option (List (ℕ × ℕ))). ArrivesAs c.args.self.now.network c.args.label.now.value c.args.label.now.node 0 c.max-least.result o) c.in-Some.is c.in_ok-value.ensures.left in
    let least : c.max-least.result ≡ max c.args.self.now.network.reserve c.args.self.now.network.home_level =
    let reserve : c.min_q.result ≡ c.args.self.now.network.reserve = c.min_q.ensures.value ∙ ap (λ (p : Question). p.network.reserve) c.self.view_is in
    let home : c.home_q.result ≡ c.args.self.now.network.home_level = c.home_q.ensures.value ∙ ap (λ (p : Question). p.network.home_level) c.self.view_is in
    omega (arith, reserve, home, c.max-least.ensures)
    in
    let arrival = subst (λ r. IsArrival (energy c.args.self.now.network c.args.label.now.node 0) (drive_time c.args.self.now.network c.args.label.now.node 0) (scaled_limit c.args.self.now.network) r (level_times c.args.label.now.value) (level_times c.in-Some.value)) least named in
    let known : 0 < node_count c.args.self.now.network = omega (arith, c.self.invariant.network.depot, ap (λ (p : Question). node_count p.network) c.self.view_is) in
    let paid_fits : FitsSigned w128 c.args.paid = c.ranges.paid in
    let told : IsTrue c.earns.result ↔ (pos (c.self.inside.weight * c.least.result.1) <ℤ c.args.paid) = simp to_z-of_z at c.earns.ensures in
    let weighed = subst (λ w. IsTrue c.earns.result ↔ (pos (w * c.least.result.1) <ℤ c.args.paid)) (ap (λ (p : Question). p.weight) c.self.view_is) told in
    let paid = subst (λ p. IsTrue c.earns.result ↔ (pos (c.args.self.now.weight * c.least.result.1) <ℤ p)) c.requires.paid weighed in
    let time : c.least.result.1 ≡ time_at (level_times c.in-Some.value) (level_times c.in-Some.value).first = c.least.ensures.time ∙ ap (λ y. time_at (level_times c.in-Some.value) y) c.least.ensures.level in
    home_told q l c.in-Some.value c.least.result.1 arrival c.least.ensures.valid time c.earns.result known (λ e. c.if-label-eq0-2.false (sym e)) c.if-label-eq0.false (sym c.allows.ensures ∙ c.if-not-allows.false) paid

pub returns-in-None : goal.returns-in-None
returns-in-None = grind (arith, common_steps)
