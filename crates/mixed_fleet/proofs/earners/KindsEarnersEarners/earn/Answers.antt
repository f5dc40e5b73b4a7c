use Rattle.std.proofs.Common.{◌≡◌, ◌∙◌, [], ℕ, List, arith, length, rules, subst, sym}
use Rattle.std.proofs.lemmas.Grind.{common_steps}
use Rattle.ev_model.specs.Network.{Network}
use Rattle.piece_fn.specs.declared.label.Label.{Label}
use Rattle.price_loop.specs.Problems.{IsClosing}
use Rattle.mixed_fleet.specs.Fleets.{AreFleetKinds}
use Rattle.mixed_fleet.specs.Problem.{AreClosedBelow, AreClosedLists, problem_of}
use Rattle.mixed_fleet.proofs.KindAnswers.{closing_is}
use Rattle.mixed_fleet.proofs.PricedKinds.{gathered_more}
use Rattle.mixed_fleet.proofs.earners.KindsEarnersEarners.earn.Goals as goal

pub loop-kind-preserved : goal.loop-kind-preserved
loop-kind-preserved c =
    let at = c.loop-kind in
    gathered_more c.self.inside.kinds.now at.kind c.args.weight c.args.prices.now at.found.items at.lists.items at.invariant c.in_ok-earned.earned c.gather.new.found.items c.gather.new.lists.items c.in_ok-earned.ensures c.in_ok-gather.ensures

pub returns : goal.returns
returns c =
    let kinds = c.args.self.now in
    let fleet = subst AreFleetKinds c.self.view_is c.self.invariant in
    let at = c.loop-kind in
    let weight = c.args.weight in
    let prices = c.args.prices.now in
    let none : at.found.items ≡ [] = search rules in
    let end = c.loop-kind-test.false in
    let low = at.auto.kind-end in
    let all : at.kind ≡ length c.self.inside.kinds.now = omega (arith, end, low) in
    let below = subst (λ (n : ℕ). AreClosedBelow c.self.inside.kinds.now n weight prices at.lists.items) all (at.invariant.closed none) in
    let lists : AreClosedLists c.self.inside.kinds.now weight prices at.lists.items = record { one_list = at.invariant.one_list none ∙ all; closed = below } in
    let here = subst (λ (ks : List Network). AreClosedLists ks weight prices at.lists.items) c.self.view_is lists in
    subst (λ (ls : List (List Label)). IsClosing (problem_of kinds) weight prices ls) (sym c.from_vec.ensures)
    (closing_is kinds fleet weight prices (record { weight_small = c.requires.weight; one_price = c.requires.one_price; small = c.requires.small }) at.lists.items here)

pub loop-kind-init : goal.loop-kind-init
loop-kind-init = grind (arith, common_steps)
