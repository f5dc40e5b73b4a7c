use Rattle.std.proofs.Common.{◌≡◌, ◌∙◌, ℕ, ◌++◌, List, [], ◌∷◌, ap, codes, decimal, map, sym}
use Rattle.place_names.specs.Places.{name_at}
use Rattle.schedule_texts.specs.Spreadsheets.{cell_of, field_text, more_fields, stay_texts, with_name}
use Rattle.schedule_texts.proofs.Cells.{record_parts}
use Rattle.schedule_texts.proofs.Joined.{join}
use Rattle.schedule_texts.proofs.spreadsheet.push_visit.Goals as goal

pub returns : goal.returns
returns c =
    let x = c.args.out.now.items in
    let a1 : List ℕ = field_text (cell_of (decimal c.args.number)) ++ more_fields (map cell_of (decimal c.args.at ∷ decimal c.args.visit.now.node ∷ [])) in
    let y1 = c.push_start.new.out.items in
    let a2 : List ℕ = more_fields (map cell_of (with_name c.args.places.now (name_at c.args.places.now c.args.visit.now.node) [])) in
    let y2 = c.push_place_name.new.out.items in
    let a3 : List ℕ = more_fields (map cell_of (stay_texts c.args.clock c.args.denominator c.args.visit.now)) in
    let y3 = c.push_stay.new.out.items in
    let a4 : List ℕ = codes "\n" in
    let y4 = c.push_word.new.out.items in
    let e1 : y1 ≡ x ++ a1 = c.in_ok-push_start.ensures in
    let e2 : y2 ≡ y1 ++ a2 = c.in_ok-push_place_name.ensures in
    let e3 : y3 ≡ y2 ++ a3 = c.in_ok-push_stay.ensures in
    let e4 : y4 ≡ y3 ++ a4 = c.in_ok-push_word.ensures.ok in
    let t2 = join x y1 y2 (a1) a2 e1 e2 in
    let t3 = join x y2 y3 (a1 ++ a2) a3 t2 e3 in
    let t4 = join x y3 y4 (a1 ++ a2 ++ a3) a4 t3 e4 in
    t4 ∙ ap (λ (w : List ℕ). x ++ w) (sym (record_parts c.args.places.now (decimal c.args.number) (decimal c.args.at) (decimal c.args.visit.now.node) (name_at c.args.places.now c.args.visit.now.node) (stay_texts c.args.clock c.args.denominator c.args.visit.now)))
