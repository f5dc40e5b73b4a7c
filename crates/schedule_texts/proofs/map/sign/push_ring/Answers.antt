use Rattle.std.proofs.Common.{◌≡◌, ℕ, ◌+◌, ◌++◌, List, arith, codes, decimal}
use Rattle.std.proofs.lemmas.Grind.{common_steps}
use Rattle.schedule_texts.specs.Maps.{colour_of, ring_text}
use Rattle.schedule_texts.proofs.Joined.{join}
use Rattle.schedule_texts.proofs.map.sign.push_ring.Goals as goal

pub returns : goal.returns
unfolding ring_text
returns c =
    let x = c.args.out.now.items in
    let a1 : List ℕ = codes "<circle class='o' stroke='" in
    let y1 = c.push_word.new.out.items in
    let a2 : List ℕ = colour_of c.args.number in
    let y2 = c.push_word-2.new.out.items in
    let a3 : List ℕ = codes "' cx='" ++ decimal c.args.x in
    let y3 = c.push_numbered.new.out.items in
    let a4 : List ℕ = codes "' cy='" ++ decimal c.args.y in
    let y4 = c.push_numbered-2.new.out.items in
    let a5 : List ℕ = codes "' r='60'/>" in
    let y5 = c.push_word-3.new.out.items in
    let e1 : y1 ≡ x ++ a1 = c.in_ok-push_word.ensures.ok in
    let e2 : y2 ≡ y1 ++ a2 = grind (arith, common_steps) in
    let e3 : y3 ≡ y2 ++ a3 = c.in_ok-push_numbered.ensures.ok in
    let e4 : y4 ≡ y3 ++ a4 = c.in_ok-push_numbered-2.ensures.ok in
    let e5 : y5 ≡ y4 ++ a5 = c.in_ok-push_word-3.ensures.ok in
    let t2 = join x y1 y2 (a1) a2 e1 e2 in
    let t3 = join x y2 y3 (a1 ++ a2) a3 t2 e3 in
    let t4 = join x y3 y4 (a1 ++ a2 ++ a3) a4 t3 e4 in
    let t5 = join x y4 y5 (a1 ++ a2 ++ a3 ++ a4) a5 t4 e5 in
    t5
