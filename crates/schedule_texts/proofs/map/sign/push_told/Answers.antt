use Rattle.std.proofs.Common.{◌≡◌, ℕ, ◌++◌, List, codes, decimal}
use Rattle.schedule_texts.specs.Shapes.{place_text}
use Rattle.schedule_texts.specs.Maps.{told_text}
use Rattle.schedule_texts.proofs.Joined.{join}
use Rattle.schedule_texts.proofs.map.sign.push_told.Goals as goal

pub returns : goal.returns
unfolding told_text
returns c =
    let x = c.args.out.now.items in
    let a1 : List ℕ = codes "<g><title>route " ++ decimal c.args.number in
    let y1 = c.push_numbered.new.out.items in
    let a2 : List ℕ = codes ", stop " ++ decimal c.args.at in
    let y2 = c.push_numbered-2.new.out.items in
    let a3 : List ℕ = place_text c.args.places.now c.args.visit.now in
    let y3 = c.push_place.new.out.items in
    let a4 : List ℕ = codes ", charged " ++ decimal c.args.visit.now.charged in
    let y4 = c.push_numbered-3.new.out.items in
    let a5 : List ℕ = codes "</title>" in
    let y5 = c.push_word.new.out.items in
    let e1 : y1 ≡ x ++ a1 = c.in_ok-push_numbered.ensures.ok in
    let e2 : y2 ≡ y1 ++ a2 = c.in_ok-push_numbered-2.ensures.ok in
    let e3 : y3 ≡ y2 ++ a3 = c.in_ok-push_place.ensures in
    let e4 : y4 ≡ y3 ++ a4 = c.in_ok-push_numbered-3.ensures.ok in
    let e5 : y5 ≡ y4 ++ a5 = c.in_ok-push_word.ensures.ok in
    let t2 = join x y1 y2 (a1) a2 e1 e2 in
    let t3 = join x y2 y3 (a1 ++ a2) a3 t2 e3 in
    let t4 = join x y3 y4 (a1 ++ a2 ++ a3) a4 t3 e4 in
    let t5 = join x y4 y5 (a1 ++ a2 ++ a3 ++ a4) a5 t4 e5 in
    t5
