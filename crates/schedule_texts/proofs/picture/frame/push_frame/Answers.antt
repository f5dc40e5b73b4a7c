use Rattle.std.proofs.Common.{◌≡◌, ℕ, ◌+◌, ◌++◌, List, arith}
use Rattle.schedule_texts.specs.Frames.{between_text, frame_text, home_text, levels_text, limit_text, lines_text, reserve_text, reserve_words_at}
use Rattle.schedule_texts.specs.Scales.{y_at}
use Rattle.schedule_texts.proofs.Joined.{join}
use Rattle.schedule_texts.proofs.picture.frame.push_frame.Goals as goal

pub returns : goal.returns
unfolding frame_text
returns c =
    let x = c.args.out.now.items in
    let a1 : List ℕ = between_text c.args.scale in
    let y1 = c.push_between.new.out.items in
    let a2 : List ℕ = lines_text c.args.scale.width (y_at c.args.scale c.args.scale.reserve) in
    let y2 = c.push_lines.new.out.items in
    let a3 : List ℕ = levels_text c.args.scale.full in
    let y3 = c.push_levels.new.out.items in
    let a4 : List ℕ = reserve_text (c.args.scale.width + 1300) (reserve_words_at c.args.scale) c.args.scale.reserve in
    let y4 = c.push_reserve.new.out.items in
    let a5 : List ℕ = home_text c.args.scale in
    let y5 = c.push_home.new.out.items in
    let a6 : List ℕ = limit_text c.args.scale c.args.scale.limit in
    let y6 = c.push_limit.new.out.items in
    let e1 : y1 ≡ x ++ a1 = c.in_ok-push_between.ensures in
    let e2 : y2 ≡ y1 ++ a2 = grind arith in
    let e3 : y3 ≡ y2 ++ a3 = c.in_ok-push_levels.ensures in
    let e4 : y4 ≡ y3 ++ a4 = grind arith in
    let e5 : y5 ≡ y4 ++ a5 = c.in_ok-push_home.ensures in
    let e6 : y6 ≡ y5 ++ a6 = c.in_ok-push_limit.ensures in
    let t2 = join x y1 y2 (a1) a2 e1 e2 in
    let t3 = join x y2 y3 (a1 ++ a2) a3 t2 e3 in
    let t4 = join x y3 y4 (a1 ++ a2 ++ a3) a4 t3 e4 in
    let t5 = join x y4 y5 (a1 ++ a2 ++ a3 ++ a4) a5 t4 e5 in
    let t6 = join x y5 y6 (a1 ++ a2 ++ a3 ++ a4 ++ a5) a6 t5 e6 in
    t6
