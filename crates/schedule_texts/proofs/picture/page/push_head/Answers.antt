use Rattle.std.proofs.Common.{◌≡◌, ℕ, ◌++◌, ◌+◌, ◌*◌, List}
use Rattle.schedule_texts.specs.Pictures.{head_text, legend_text, size_text, style_text}
use Rattle.schedule_texts.proofs.Joined.{join}
use Rattle.schedule_texts.proofs.picture.page.push_head.Goals as goal

pub returns : goal.returns
unfolding head_text
returns c =
    let x = c.args.out.now.items in
    let a1 : List ℕ = size_text (c.args.width + 2700) (c.args.height + 1100) in
    let y1 = c.push_size.new.out.items in
    let y2 = c.push_style.new.out.items in
    let y3 = c.push_legend.new.out.items in
    let e1 : y1 ≡ x ++ a1 = c.in_ok-push_size.ensures in
    let e2 : y2 ≡ y1 ++ style_text = c.in_ok-push_style.ensures in
    let e3 : y3 ≡ y2 ++ legend_text = c.in_ok-push_legend.ensures in
    let t2 = join x y1 y2 a1 style_text e1 e2 in
    let t3 = join x y2 y3 (a1 ++ style_text) legend_text t2 e3 in
    t3
