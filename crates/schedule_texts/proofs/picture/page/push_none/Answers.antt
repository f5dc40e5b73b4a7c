use Rattle.std.proofs.Common.{◌≡◌, ℕ, ◌++◌, List, codes}
use Rattle.schedule_texts.specs.Pictures.{head_text}
use Rattle.schedule_texts.specs.Pictures.{none_text}
use Rattle.schedule_texts.proofs.Joined.{join}
use Rattle.schedule_texts.proofs.picture.page.push_none.Goals as goal

pub returns : goal.returns
unfolding none_text
returns c =
    let x = c.args.out.now.items in
    let a1 : List ℕ = head_text 8000 0 in
    let y1 = c.push_head.new.out.items in
    let a2 : List ℕ = codes "<text x='1200' y='940'>" in
    let y2 = c.push_word.new.out.items in
    let a3 : List ℕ = c.args.why.now in
    let y3 = c.push_word-2.new.out.items in
    let a4 : List ℕ = codes "</text>\n" in
    let y4 = c.push_word-3.new.out.items in
    let e1 : y1 ≡ x ++ a1 = c.in_ok-push_head.ensures in
    let e2 : y2 ≡ y1 ++ a2 = c.in_ok-push_word.ensures.ok in
    let e3 : y3 ≡ y2 ++ a3 = c.in_ok-push_word-2.ensures.ok in
    let e4 : y4 ≡ y3 ++ a4 = c.in_ok-push_word-3.ensures.ok in
    let t2 = join x y1 y2 (a1) a2 e1 e2 in
    let t3 = join x y2 y3 (a1 ++ a2) a3 t2 e3 in
    let t4 = join x y3 y4 (a1 ++ a2 ++ a3) a4 t3 e4 in
    t4
