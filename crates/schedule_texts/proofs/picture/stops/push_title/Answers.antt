use Rattle.std.proofs.Common.{◌≡◌, ℕ, ◌++◌, List, codes, decimal, false}
use Rattle.schedule_texts.specs.Clocks.{moment_text}
use Rattle.schedule_texts.specs.Shapes.{place_text}
use Rattle.schedule_texts.specs.Shapes.{title_text}
use Rattle.schedule_texts.proofs.Joined.{join}
use Rattle.schedule_texts.proofs.picture.stops.push_title.Goals as goal

pub returns : goal.returns
unfolding title_text
returns c =
    let x = c.args.out.now.items in
    let a1 : List ℕ = codes "<title>stop " ++ decimal c.args.at in
    let y1 = c.push_numbered.new.out.items in
    let a2 : List ℕ = place_text c.args.places.now c.args.visit.now in
    let y2 = c.push_place.new.out.items in
    let a3 : List ℕ = codes ", arrival " in
    let y3 = c.push_word.new.out.items in
    let a4 : List ℕ = moment_text c.args.scale.clock false c.args.scale.denominator c.args.visit.now.arrival in
    let y4 = c.push_moment.new.out.items in
    let a5 : List ℕ = codes ", level " ++ decimal c.args.visit.now.level in
    let y5 = c.push_numbered-2.new.out.items in
    let a6 : List ℕ = codes "</title>" in
    let y6 = c.push_word-2.new.out.items in
    let e1 : y1 ≡ x ++ a1 = c.in_ok-push_numbered.ensures.ok in
    let e2 : y2 ≡ y1 ++ a2 = c.in_ok-push_place.ensures in
    let e3 : y3 ≡ y2 ++ a3 = c.in_ok-push_word.ensures.ok in
    let e4 : y4 ≡ y3 ++ a4 = c.in_ok-push_moment.ensures in
    let e5 : y5 ≡ y4 ++ a5 = c.in_ok-push_numbered-2.ensures.ok in
    let e6 : y6 ≡ y5 ++ a6 = c.in_ok-push_word-2.ensures.ok in
    let t2 = join x y1 y2 (a1) a2 e1 e2 in
    let t3 = join x y2 y3 (a1 ++ a2) a3 t2 e3 in
    let t4 = join x y3 y4 (a1 ++ a2 ++ a3) a4 t3 e4 in
    let t5 = join x y4 y5 (a1 ++ a2 ++ a3 ++ a4) a5 t4 e5 in
    let t6 = join x y5 y6 (a1 ++ a2 ++ a3 ++ a4 ++ a5) a6 t5 e6 in
    t6
