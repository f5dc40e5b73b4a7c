use Rattle.std.proofs.Common.{◌≡◌, ◌∙◌, ℕ, ◌++◌, List, ap, codes, decimal}
use Rattle.plan_schedule.specs.declared.schedule.Visit.{Visit}
use Rattle.report_lines.specs.Lines.{number_line}
use Rattle.schedule_texts.specs.Tables.{header_text, rows_text, sums_text}
use Rattle.schedule_texts.specs.Tables.{route_text}
use Rattle.schedule_texts.proofs.Joined.{join}
use Rattle.schedule_texts.proofs.table.push_route.Goals as goal

pub returns : goal.returns
unfolding route_text
returns c =
    let x = c.args.out.now.items in
    let a1 : List ℕ = number_line (codes "route ") c.args.route.now.number in
    let y1 = c.push_number_line.new.out.items in
    let a2 : List ℕ = header_text c.args.columns in
    let y2 = c.push_header.new.out.items in
    let a3 : List ℕ = rows_text c.args.columns c.args.places.now 0 c.args.route.now.visits in
    let y3 = c.push_rows.new.out.items in
    let a4 : List ℕ = codes "total of route " ++ decimal c.args.route.now.number in
    let y4 = c.push_numbered.new.out.items in
    let a5 : List ℕ = codes ": " in
    let y5 = c.push_word.new.out.items in
    let a6 : List ℕ = sums_text c.args.columns c.args.route.now.totals in
    let y6 = c.push_sums.new.out.items in
    let a7 : List ℕ = codes "\n" in
    let y7 = c.push_word-2.new.out.items in
    let e1 : y1 ≡ x ++ a1 = c.in_ok-push_number_line.ensures.ok in
    let e2 : y2 ≡ y1 ++ a2 = c.in_ok-push_header.ensures in
    let e3 : y3 ≡ y2 ++ a3 = c.in_ok-push_rows.ensures ∙ ap (λ (w : List ℕ). y2 ++ w) (ap (λ (vs : List Visit). rows_text c.args.columns c.args.places.now 0 vs) c.as_slice.ensures) in
    let e4 : y4 ≡ y3 ++ a4 = c.in_ok-push_numbered.ensures.ok in
    let e5 : y5 ≡ y4 ++ a5 = c.in_ok-push_word.ensures.ok in
    let e6 : y6 ≡ y5 ++ a6 = c.in_ok-push_sums.ensures in
    let e7 : y7 ≡ y6 ++ a7 = c.in_ok-push_word-2.ensures.ok in
    let t2 = join x y1 y2 (a1) a2 e1 e2 in
    let t3 = join x y2 y3 (a1 ++ a2) a3 t2 e3 in
    let t4 = join x y3 y4 (a1 ++ a2 ++ a3) a4 t3 e4 in
    let t5 = join x y4 y5 (a1 ++ a2 ++ a3 ++ a4) a5 t4 e5 in
    let t6 = join x y5 y6 (a1 ++ a2 ++ a3 ++ a4 ++ a5) a6 t5 e6 in
    let t7 = join x y6 y7 (a1 ++ a2 ++ a3 ++ a4 ++ a5 ++ a6) a7 t6 e7 in
    t7
