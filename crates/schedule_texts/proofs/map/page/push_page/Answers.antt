use Rattle.std.proofs.Common.{◌≡◌, ◌∙◌, ℕ, ◌+◌, ◌++◌, List, ap, arith, codes, max}
use Rattle.std.proofs.lemmas.Grind.{common_steps}
use Rattle.std.specs.Prelude.{Option}
use Rattle.ev_text.specs.Texts.{joined_texts}
use Rattle.schedule_texts.specs.Pictures.{size_text}
use Rattle.schedule_texts.specs.Maps.{depot_mark, map_style, page_text, place_mark, route_line, route_signs, rows_text, spot_of}
use Rattle.schedule_texts.proofs.Joined.{join}
use Rattle.schedule_texts.proofs.map.page.push_page.Goals as goal

pub returns : goal.returns
unfolding page_text
returns c =
    let x = c.args.out.now.items in
    let a1 : List ℕ = size_text (max c.args.m.across 7000 + 3500) (c.args.m.head + c.args.m.down + 700) in
    let y1 = c.push_size.new.out.items in
    let a2 : List ℕ = map_style in
    let y2 = c.push_map_style.new.out.items in
    let a3 : List ℕ = rows_text c.args.denominator 0 c.args.routes.now in
    let y3 = c.push_rows.new.out.items in
    let a4 : List ℕ = joined_texts (route_line c.args.m c.args.places.now) c.args.routes.now in
    let y4 = c.push_lines.new.out.items in
    let a5 : List ℕ = joined_texts (place_mark c.args.m) c.args.places.now in
    let y5 = c.push_places.new.out.items in
    let a6 : List ℕ = joined_texts (route_signs c.args.m c.args.places.now) c.args.routes.now in
    let y6 = c.push_all_signs.new.out.items in
    let a7 : List ℕ = depot_mark (spot_of c.args.m c.args.places.now 0) in
    let y7 = c.push_depot.new.out.items in
    let a8 : List ℕ = codes "</svg>\n" in
    let y8 = c.push_word.new.out.items in
    let e1 : y1 ≡ x ++ a1 = grind (arith, common_steps) in
    let e2 : y2 ≡ y1 ++ a2 = c.in_ok-push_map_style.ensures in
    let e3 : y3 ≡ y2 ++ a3 = c.in_ok-push_rows.ensures in
    let e4 : y4 ≡ y3 ++ a4 = c.in_ok-push_lines.ensures in
    let e5 : y5 ≡ y4 ++ a5 = c.in_ok-push_places.ensures in
    let e6 : y6 ≡ y5 ++ a6 = c.in_ok-push_all_signs.ensures in
    let e7 : y7 ≡ y6 ++ a7 = grind (arith, common_steps) in
    let e8 : y8 ≡ y7 ++ a8 = c.in_ok-push_word.ensures.ok in
    let t2 = join x y1 y2 (a1) a2 e1 e2 in
    let t3 = join x y2 y3 (a1 ++ a2) a3 t2 e3 in
    let t4 = join x y3 y4 (a1 ++ a2 ++ a3) a4 t3 e4 in
    let t5 = join x y4 y5 (a1 ++ a2 ++ a3 ++ a4) a5 t4 e5 in
    let t6 = join x y5 y6 (a1 ++ a2 ++ a3 ++ a4 ++ a5) a6 t5 e6 in
    let t7 = join x y6 y7 (a1 ++ a2 ++ a3 ++ a4 ++ a5 ++ a6) a7 t6 e7 in
    let t8 = join x y7 y8 (a1 ++ a2 ++ a3 ++ a4 ++ a5 ++ a6 ++ a7) a8 t7 e8 in
    t8
