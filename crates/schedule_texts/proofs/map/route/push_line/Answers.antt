use Rattle.std.proofs.Common.{◌≡◌, ◌∙◌, ℕ, ◌++◌, List, ap, arith, codes}
use Rattle.std.proofs.lemmas.Grind.{common_steps}
use Rattle.ev_text.specs.Texts.{joined_texts}
use Rattle.plan_schedule.specs.declared.schedule.Visit.{Visit}
use Rattle.schedule_texts.specs.Maps.{colour_of, route_line, visit_corner}
use Rattle.schedule_texts.proofs.Joined.{join}
use Rattle.schedule_texts.proofs.map.route.push_line.Goals as goal

pub returns : goal.returns
unfolding route_line
returns c =
    let x = c.args.out.now.items in
    let a1 : List ℕ = codes "<polyline class='w' stroke='" in
    let y1 = c.push_word.new.out.items in
    let a2 : List ℕ = colour_of c.args.route.now.number in
    let y2 = c.push_word-2.new.out.items in
    let a3 : List ℕ = codes "' points='" in
    let y3 = c.push_word-3.new.out.items in
    let a4 : List ℕ = joined_texts (visit_corner c.args.m c.args.places.now) c.args.route.now.visits in
    let y4 = c.push_corners.new.out.items in
    let a5 : List ℕ = codes "'/>\n" in
    let y5 = c.push_word-4.new.out.items in
    let e1 : y1 ≡ x ++ a1 = c.in_ok-push_word.ensures.ok in
    let e2 : y2 ≡ y1 ++ a2 = grind (arith, common_steps) in
    let e3 : y3 ≡ y2 ++ a3 = c.in_ok-push_word-3.ensures.ok in
    let e4 : y4 ≡ y3 ++ a4 = c.in_ok-push_corners.ensures ∙ ap (λ (w : List ℕ). y3 ++ w) (ap (λ (vs : List Visit). joined_texts (visit_corner c.args.m c.args.places.now) vs) c.as_slice.ensures) in
    let e5 : y5 ≡ y4 ++ a5 = c.in_ok-push_word-4.ensures.ok in
    let t2 = join x y1 y2 (a1) a2 e1 e2 in
    let t3 = join x y2 y3 (a1 ++ a2) a3 t2 e3 in
    let t4 = join x y3 y4 (a1 ++ a2 ++ a3) a4 t3 e4 in
    let t5 = join x y4 y5 (a1 ++ a2 ++ a3 ++ a4) a5 t4 e5 in
    t5
