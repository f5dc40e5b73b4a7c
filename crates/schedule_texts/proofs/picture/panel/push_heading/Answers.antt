use Rattle.std.proofs.Common.{◌≡◌, ◌∙◌, ℕ, ◌++◌, List, ap, codes, decimal}
use Rattle.plan_schedule.specs.declared.schedule.Visit.{Visit}
use Rattle.schedule_texts.specs.Decimals.{decimal_text}
use Rattle.schedule_texts.specs.Names.{left_out}
use Rattle.schedule_texts.specs.Panels.{heading_text, left_out_text, span_text}
use Rattle.schedule_texts.proofs.Joined.{join}
use Rattle.schedule_texts.proofs.picture.panel.push_heading.Goals as goal

pub returns : goal.returns
unfolding heading_text
returns c =
    let x = c.args.out.now.items in
    let a1 : List ℕ = codes "<text class='h' x='1200' y='" ++ decimal c.args.y in
    let y1 = c.push_numbered.new.out.items in
    let a2 : List ℕ = codes "'>route " ++ decimal c.args.route.now.number in
    let y2 = c.push_numbered-2.new.out.items in
    let a3 : List ℕ = codes ": stops " ++ decimal c.args.route.now.totals.stops in
    let y3 = c.push_numbered-3.new.out.items in
    let a4 : List ℕ = codes ", time " in
    let y4 = c.push_word.new.out.items in
    let a5 : List ℕ = decimal_text c.args.scale.denominator c.args.route.now.totals.time in
    let y5 = c.push_decimal.new.out.items in
    let a6 : List ℕ = codes ", energy charged " ++ decimal c.args.route.now.totals.energy_charged in
    let y6 = c.push_numbered-4.new.out.items in
    let a7 : List ℕ = span_text c.args.scale.clock c.args.scale.denominator c.args.route.now in
    let y7 = c.push_span.new.out.items in
    let a8 : List ℕ = left_out_text (left_out c.args.scale c.args.route.now.visits) in
    let y8 = c.push_left_out.new.out.items in
    let a9 : List ℕ = codes "</text>\n" in
    let y9 = c.push_word-2.new.out.items in
    let e1 : y1 ≡ x ++ a1 = c.in_ok-push_numbered.ensures.ok in
    let e2 : y2 ≡ y1 ++ a2 = c.in_ok-push_numbered-2.ensures.ok in
    let e3 : y3 ≡ y2 ++ a3 = c.in_ok-push_numbered-3.ensures.ok in
    let e4 : y4 ≡ y3 ++ a4 = c.in_ok-push_word.ensures.ok in
    let e5 : y5 ≡ y4 ++ a5 = c.in_ok-push_decimal.ensures in
    let e6 : y6 ≡ y5 ++ a6 = c.in_ok-push_numbered-4.ensures.ok in
    let e7 : y7 ≡ y6 ++ a7 = c.in_ok-push_span.ensures in
    let e8 : y8 ≡ y7 ++ a8 = c.in_ok-push_left_out.ensures ∙ ap (λ (w : List ℕ). y7 ++ w) (ap (λ (n : ℕ). left_out_text n) (c.left_out.ensures ∙ ap (λ (vs : List Visit). left_out c.args.scale vs) c.as_slice.ensures)) in
    let e9 : y9 ≡ y8 ++ a9 = c.in_ok-push_word-2.ensures.ok in
    let t2 = join x y1 y2 (a1) a2 e1 e2 in
    let t3 = join x y2 y3 (a1 ++ a2) a3 t2 e3 in
    let t4 = join x y3 y4 (a1 ++ a2 ++ a3) a4 t3 e4 in
    let t5 = join x y4 y5 (a1 ++ a2 ++ a3 ++ a4) a5 t4 e5 in
    let t6 = join x y5 y6 (a1 ++ a2 ++ a3 ++ a4 ++ a5) a6 t5 e6 in
    let t7 = join x y6 y7 (a1 ++ a2 ++ a3 ++ a4 ++ a5 ++ a6) a7 t6 e7 in
    let t8 = join x y7 y8 (a1 ++ a2 ++ a3 ++ a4 ++ a5 ++ a6 ++ a7) a8 t7 e8 in
    let t9 = join x y8 y9 (a1 ++ a2 ++ a3 ++ a4 ++ a5 ++ a6 ++ a7 ++ a8) a9 t8 e9 in
    t9
