use Rattle.std.proofs.Common.{◌≡◌, ℕ, ◌++◌, ◌+◌, ◌*◌, List, arith, codes, decimal}
use Rattle.schedule_texts.specs.Panels.{heading_text, panel_text, panel_top, placed_text}
use Rattle.schedule_texts.proofs.Joined.{join}
use Rattle.schedule_texts.proofs.picture.panel.push_placed.Goals as goal

pub returns : goal.returns
unfolding placed_text
returns c =
    let x = c.args.out.now.items in
    let a1 : List ℕ = heading_text c.args.scale (panel_top c.args.scale c.args.at + 130) c.args.route.now in
    let y1 = c.push_heading.new.out.items in
    let a2 : List ℕ = codes "<g transform='translate(0," ++ decimal (panel_top c.args.scale c.args.at + c.args.scale.rise) in
    let y2 = c.push_numbered.new.out.items in
    let a3 : List ℕ = codes ")'>\n" in
    let y3 = c.push_word.new.out.items in
    let a4 : List ℕ = panel_text c.args.scale c.args.places.now c.args.route.now in
    let y4 = c.push_panel.new.out.items in
    let a5 : List ℕ = codes "</g>\n" in
    let y5 = c.push_word-2.new.out.items in
    let e1 : y1 ≡ x ++ a1 = grind arith in
    let e2 : y2 ≡ y1 ++ a2 = grind arith in
    let e3 : y3 ≡ y2 ++ a3 = c.in_ok-push_word.ensures.ok in
    let e4 : y4 ≡ y3 ++ a4 = c.in_ok-push_panel.ensures in
    let e5 : y5 ≡ y4 ++ a5 = c.in_ok-push_word-2.ensures.ok in
    let t2 = join x y1 y2 (a1) a2 e1 e2 in
    let t3 = join x y2 y3 (a1 ++ a2) a3 t2 e3 in
    let t4 = join x y3 y4 (a1 ++ a2 ++ a3) a4 t3 e4 in
    let t5 = join x y4 y5 (a1 ++ a2 ++ a3 ++ a4) a5 t4 e5 in
    t5
