use Rattle.std.proofs.Common.{◌≡◌, ℕ, ◌++◌, List, codes, decimal}
use Rattle.schedule_texts.specs.Maps.{depot_at}
use Rattle.schedule_texts.proofs.Joined.{join}
use Rattle.schedule_texts.proofs.map.place.push_depot_at.Goals as goal

pub returns : goal.returns
unfolding depot_at
returns c =
    let x = c.args.out.now.items in
    let a1 : List ℕ = codes "<path class='d' d='M" ++ decimal c.args.x in
    let y1 = c.push_numbered.new.out.items in
    let a2 : List ℕ = codes " " ++ decimal c.args.y in
    let y2 = c.push_numbered-2.new.out.items in
    let a3 : List ℕ = codes "m0 -110l110 110l-110 110l-110 -110z'/>\n" in
    let y3 = c.push_word.new.out.items in
    let e1 : y1 ≡ x ++ a1 = c.in_ok-push_numbered.ensures.ok in
    let e2 : y2 ≡ y1 ++ a2 = c.in_ok-push_numbered-2.ensures.ok in
    let e3 : y3 ≡ y2 ++ a3 = c.in_ok-push_word.ensures.ok in
    let t2 = join x y1 y2 (a1) a2 e1 e2 in
    let t3 = join x y2 y3 (a1 ++ a2) a3 t2 e3 in
    t3
