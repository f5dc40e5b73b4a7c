use Rattle.std.proofs.Common.{◌≡◌, ℕ, ◌+◌, ◌++◌, List, codes, decimal}
use Rattle.schedule_texts.specs.Frames.{home_line}
use Rattle.schedule_texts.proofs.Joined.{join}
use Rattle.schedule_texts.proofs.picture.frame.push_home_line.Goals as goal

pub returns : goal.returns
unfolding home_line
returns c =
    let x = c.args.out.now.items in
    let a1 : List ℕ = codes "<path class='o' d='M1200 " ++ decimal c.args.y in
    let y1 = c.push_numbered.new.out.items in
    let a2 : List ℕ = codes "h" ++ decimal c.args.width in
    let y2 = c.push_numbered-2.new.out.items in
    let a3 : List ℕ = codes "'/><text x='" ++ decimal (c.args.width + 1300) in
    let y3 = c.push_numbered-3.new.out.items in
    let a4 : List ℕ = codes "' y='" ++ decimal c.args.words_at in
    let y4 = c.push_numbered-4.new.out.items in
    let a5 : List ℕ = codes "'>home " ++ decimal c.args.home in
    let y5 = c.push_numbered-5.new.out.items in
    let a6 : List ℕ = codes "</text>\n" in
    let y6 = c.push_word.new.out.items in
    let e1 : y1 ≡ x ++ a1 = c.in_ok-push_numbered.ensures.ok in
    let e2 : y2 ≡ y1 ++ a2 = c.in_ok-push_numbered-2.ensures.ok in
    let e3 : y3 ≡ y2 ++ a3 = c.in_ok-push_numbered-3.ensures.ok in
    let e4 : y4 ≡ y3 ++ a4 = c.in_ok-push_numbered-4.ensures.ok in
    let e5 : y5 ≡ y4 ++ a5 = c.in_ok-push_numbered-5.ensures.ok in
    let e6 : y6 ≡ y5 ++ a6 = c.in_ok-push_word.ensures.ok in
    let t2 = join x y1 y2 (a1) a2 e1 e2 in
    let t3 = join x y2 y3 (a1 ++ a2) a3 t2 e3 in
    let t4 = join x y3 y4 (a1 ++ a2 ++ a3) a4 t3 e4 in
    let t5 = join x y4 y5 (a1 ++ a2 ++ a3 ++ a4) a5 t4 e5 in
    let t6 = join x y5 y6 (a1 ++ a2 ++ a3 ++ a4 ++ a5) a6 t5 e6 in
    t6
