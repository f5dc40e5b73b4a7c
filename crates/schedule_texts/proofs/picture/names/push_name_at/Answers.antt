use Rattle.std.proofs.Common.{◌≡◌, ℕ, ◌++◌, List, arith, codes}
use Rattle.schedule_texts.specs.Labels.{label_of}
use Rattle.schedule_texts.specs.Names.{mark_text, name_text}
use Rattle.schedule_texts.specs.Scales.{x_at, y_at}
use Rattle.schedule_texts.proofs.Joined.{join}
use Rattle.schedule_texts.proofs.picture.names.push_name_at.Goals as goal

pub returns : goal.returns
unfolding name_text
returns c =
    let x = c.args.out.now.items in
    let a1 : List ℕ = mark_text (x_at c.args.scale c.args.visit.now.arrival) (y_at c.args.scale c.args.visit.now.level) c.args.place in
    let y1 = c.push_mark.new.out.items in
    let a2 : List ℕ = label_of c.args.places.now c.args.visit.now in
    let y2 = c.push_label.new.out.items in
    let a3 : List ℕ = codes "</text>\n" in
    let y3 = c.push_word.new.out.items in
    let e1 : y1 ≡ x ++ a1 = grind arith in
    let e2 : y2 ≡ y1 ++ a2 = c.in_ok-push_label.ensures in
    let e3 : y3 ≡ y2 ++ a3 = c.in_ok-push_word.ensures.ok in
    let t2 = join x y1 y2 (a1) a2 e1 e2 in
    let t3 = join x y2 y3 (a1 ++ a2) a3 t2 e3 in
    t3
