use Rattle.std.proofs.Common.{◌≡◌, ℕ, ◌+◌, ◌++◌, List, arith, codes, decimal}
use Rattle.std.proofs.lemmas.Grind.{common_steps}
use Rattle.schedule_texts.specs.Maps.{colour_of, disc_text}
use Rattle.schedule_texts.proofs.Joined.{join}
use Rattle.schedule_texts.proofs.map.sign.push_disc.Goals as goal

pub returns : goal.returns
unfolding disc_text
returns c =
    let x = c.args.out.now.items in
    let a1 : List ℕ = codes "<circle fill='" in
    let y1 = c.push_word.new.out.items in
    let a2 : List ℕ = colour_of c.args.number in
    let y2 = c.push_word-2.new.out.items in
    let a3 : List ℕ = codes "' cx='" ++ decimal c.args.x in
    let y3 = c.push_numbered.new.out.items in
    let a4 : List ℕ = codes "' cy='" ++ decimal c.args.y in
    let y4 = c.push_numbered-2.new.out.items in
    let a5 : List ℕ = codes "' r='85'/><text class='q' x='" ++ decimal c.args.x in
    let y5 = c.push_numbered-3.new.out.items in
    let a6 : List ℕ = codes "' y='" ++ decimal (c.args.y + 38) in
    let y6 = c.push_numbered-4.new.out.items in
    let a7 : List ℕ = codes "'>" ++ decimal c.args.number in
    let y7 = c.push_numbered-5.new.out.items in
    let a8 : List ℕ = codes "</text>" in
    let y8 = c.push_word-3.new.out.items in
    let e1 : y1 ≡ x ++ a1 = c.in_ok-push_word.ensures.ok in
    let e2 : y2 ≡ y1 ++ a2 = grind (arith, common_steps) in
    let e3 : y3 ≡ y2 ++ a3 = c.in_ok-push_numbered.ensures.ok in
    let e4 : y4 ≡ y3 ++ a4 = c.in_ok-push_numbered-2.ensures.ok in
    let e5 : y5 ≡ y4 ++ a5 = c.in_ok-push_numbered-3.ensures.ok in
    let e6 : y6 ≡ y5 ++ a6 = c.in_ok-push_numbered-4.ensures.ok in
    let e7 : y7 ≡ y6 ++ a7 = c.in_ok-push_numbered-5.ensures.ok in
    let e8 : y8 ≡ y7 ++ a8 = c.in_ok-push_word-3.ensures.ok in
    let t2 = join x y1 y2 (a1) a2 e1 e2 in
    let t3 = join x y2 y3 (a1 ++ a2) a3 t2 e3 in
    let t4 = join x y3 y4 (a1 ++ a2 ++ a3) a4 t3 e4 in
    let t5 = join x y4 y5 (a1 ++ a2 ++ a3 ++ a4) a5 t4 e5 in
    let t6 = join x y5 y6 (a1 ++ a2 ++ a3 ++ a4 ++ a5) a6 t5 e6 in
    let t7 = join x y6 y7 (a1 ++ a2 ++ a3 ++ a4 ++ a5 ++ a6) a7 t6 e7 in
    let t8 = join x y7 y8 (a1 ++ a2 ++ a3 ++ a4 ++ a5 ++ a6 ++ a7) a8 t7 e8 in
    t8
