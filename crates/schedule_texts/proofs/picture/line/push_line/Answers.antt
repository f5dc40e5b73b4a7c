use Rattle.std.proofs.Common.{◌≡◌, ℕ, ◌++◌, List, codes}
use Rattle.ev_text.specs.Texts.{joined_texts}
use Rattle.schedule_texts.specs.LevelLines.{point_text}
use Rattle.schedule_texts.specs.LevelLines.{line_text}
use Rattle.schedule_texts.proofs.Joined.{join}
use Rattle.schedule_texts.proofs.picture.line.push_line.Goals as goal

pub returns : goal.returns
unfolding line_text
returns c =
    let x = c.args.out.now.items in
    let a1 : List ℕ = codes "<polyline class='l' points='" in
    let y1 = c.push_word.new.out.items in
    let a2 : List ℕ = joined_texts (point_text c.args.scale) c.args.line.now in
    let y2 = c.push_points.new.out.items in
    let a3 : List ℕ = codes "'/>\n" in
    let y3 = c.push_word-2.new.out.items in
    let e1 : y1 ≡ x ++ a1 = c.in_ok-push_word.ensures.ok in
    let e2 : y2 ≡ y1 ++ a2 = c.in_ok-push_points.ensures in
    let e3 : y3 ≡ y2 ++ a3 = c.in_ok-push_word-2.ensures.ok in
    let t2 = join x y1 y2 (a1) a2 e1 e2 in
    let t3 = join x y2 y3 (a1 ++ a2) a3 t2 e3 in
    t3
