use Rattle.std.proofs.Common.{◌≡◌, ℕ, ◌+◌, ◌++◌, List, arith, codes, decimal}
use Rattle.std.proofs.lemmas.Grind.{common_steps}
use Rattle.schedule_texts.specs.Decimals.{decimal_text}
use Rattle.schedule_texts.specs.Maps.{colour_of, disc_text, row_text}
use Rattle.schedule_texts.proofs.Joined.{join}
use Rattle.schedule_texts.proofs.map.route.push_row.Goals as goal

pub returns : goal.returns
unfolding row_text
returns c =
    let x = c.args.out.now.items in
    let a1 : List ℕ = codes "<path class='w' stroke='" in
    let y1 = c.push_word.new.out.items in
    let a2 : List ℕ = colour_of c.args.route.now.number in
    let y2 = c.push_word-2.new.out.items in
    let a3 : List ℕ = codes "' d='M800 " ++ decimal c.args.y in
    let y3 = c.push_numbered.new.out.items in
    let a4 : List ℕ = codes "h500'/>" in
    let y4 = c.push_word-3.new.out.items in
    let a5 : List ℕ = disc_text c.args.route.now.number 1050 c.args.y in
    let y5 = c.push_disc.new.out.items in
    let a6 : List ℕ = codes "<text x='1450' y='" ++ decimal (c.args.y + 40) in
    let y6 = c.push_numbered-2.new.out.items in
    let a7 : List ℕ = codes "'>route " ++ decimal c.args.route.now.number in
    let y7 = c.push_numbered-3.new.out.items in
    let a8 : List ℕ = codes ": stops " ++ decimal c.args.route.now.totals.stops in
    let y8 = c.push_numbered-4.new.out.items in
    let a9 : List ℕ = codes ", time " in
    let y9 = c.push_word-4.new.out.items in
    let a10 : List ℕ = decimal_text c.args.denominator c.args.route.now.totals.time in
    let y10 = c.push_decimal.new.out.items in
    let a11 : List ℕ = codes ", energy charged " ++ decimal c.args.route.now.totals.energy_charged in
    let y11 = c.push_numbered-5.new.out.items in
    let a12 : List ℕ = codes "</text>\n" in
    let y12 = c.push_word-5.new.out.items in
    let e1 : y1 ≡ x ++ a1 = c.in_ok-push_word.ensures.ok in
    let e2 : y2 ≡ y1 ++ a2 = grind (arith, common_steps) in
    let e3 : y3 ≡ y2 ++ a3 = c.in_ok-push_numbered.ensures.ok in
    let e4 : y4 ≡ y3 ++ a4 = c.in_ok-push_word-3.ensures.ok in
    let e5 : y5 ≡ y4 ++ a5 = c.in_ok-push_disc.ensures in
    let e6 : y6 ≡ y5 ++ a6 = c.in_ok-push_numbered-2.ensures.ok in
    let e7 : y7 ≡ y6 ++ a7 = c.in_ok-push_numbered-3.ensures.ok in
    let e8 : y8 ≡ y7 ++ a8 = c.in_ok-push_numbered-4.ensures.ok in
    let e9 : y9 ≡ y8 ++ a9 = c.in_ok-push_word-4.ensures.ok in
    let e10 : y10 ≡ y9 ++ a10 = c.in_ok-push_decimal.ensures in
    let e11 : y11 ≡ y10 ++ a11 = c.in_ok-push_numbered-5.ensures.ok in
    let e12 : y12 ≡ y11 ++ a12 = c.in_ok-push_word-5.ensures.ok in
    let t2 = join x y1 y2 (a1) a2 e1 e2 in
    let t3 = join x y2 y3 (a1 ++ a2) a3 t2 e3 in
    let t4 = join x y3 y4 (a1 ++ a2 ++ a3) a4 t3 e4 in
    let t5 = join x y4 y5 (a1 ++ a2 ++ a3 ++ a4) a5 t4 e5 in
    let t6 = join x y5 y6 (a1 ++ a2 ++ a3 ++ a4 ++ a5) a6 t5 e6 in
    let t7 = join x y6 y7 (a1 ++ a2 ++ a3 ++ a4 ++ a5 ++ a6) a7 t6 e7 in
    let t8 = join x y7 y8 (a1 ++ a2 ++ a3 ++ a4 ++ a5 ++ a6 ++ a7) a8 t7 e8 in
    let t9 = join x y8 y9 (a1 ++ a2 ++ a3 ++ a4 ++ a5 ++ a6 ++ a7 ++ a8) a9 t8 e9 in
    let t10 = join x y9 y10 (a1 ++ a2 ++ a3 ++ a4 ++ a5 ++ a6 ++ a7 ++ a8 ++ a9) a10 t9 e10 in
    let t11 = join x y10 y11 (a1 ++ a2 ++ a3 ++ a4 ++ a5 ++ a6 ++ a7 ++ a8 ++ a9 ++ a10) a11 t10 e11 in
    let t12 = join x y11 y12 (a1 ++ a2 ++ a3 ++ a4 ++ a5 ++ a6 ++ a7 ++ a8 ++ a9 ++ a10 ++ a11) a12 t11 e12 in
    t12
