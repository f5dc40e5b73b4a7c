-- The cells of the CSV: none begins a formula, and a reader finds exactly them.
use Rattle.std.proofs.Common.{◌≡◌, ◌∙◌, ◌==◌, ◌||◌, ℕ, ◌+◌, ◌≤◌, zero, suc, ◌++◌, Bool, false, true, List, [], ◌∷◌, Option, None, Some, ap, append_assoc, arith, codes, length, map, refl, sym}
use Rattle.std.specs.Prelude.{if◌then◌else◌}
use Rattle.std.specs.List.{All, AllByRecursion, list_any}
use Rattle.std.proofs.lemmas.List.Elements.{All-append, All-cons, All-nil}
use Rattle.csv.proofs.RoundTrip.{read-write}
use Rattle.csv.specs.Machine.{next_record}
use Rattle.csv.specs.Reading.{default_config, records_from, records_next}
use Rattle.csv.specs.Writing as writing
use Rattle.csv.specs.Writing.{default_writer, escaped, fields_text, is_blank, needs_byte, row_text}
use Rattle.csv.specs.declared.parser.State.{State}
use Rattle.csv.specs.declared.parser.State.TheVariants as state
use Rattle.ev_text.specs.Texts.{joined_texts}
use Rattle.place_names.specs.declared.place.Place.{Place}
use Rattle.plan_schedule.specs.declared.schedule.RouteSchedule.{RouteSchedule}
use Rattle.plan_schedule.specs.declared.schedule.Schedule.{Schedule}
use Rattle.plan_schedule.specs.declared.schedule.Visit.{Visit}
use Rattle.schedule_texts.specs.declared.clock.Clock.{Clock}
use Rattle.schedule_texts.specs.Spreadsheets.{IsNoFormula, begins_formula, calls_for_quotes, cell_of, column_names, csv_cells, csv_text, doubled, field_text, more_fields, plan_cells, record_text, route_cells, visit_cells, visit_texts, with_name}

-- ---- no formulas

no_formula : (text : List ℕ) → IsNoFormula (cell_of text)
no_formula text = by (begins_formula text) refl
  where
    by : (begins : Bool) → begins_formula text ≡ begins → IsNoFormula (if begins then 39 ∷ text else text)
    by true is = refl
    by false is = is

no_formula_in : (texts : List (List ℕ)) → All IsNoFormula (map cell_of texts)
no_formula_in [] = All-nil IsNoFormula
no_formula_in (text ∷ texts) = All-cons IsNoFormula (cell_of text) (map cell_of texts) (no_formula text) (no_formula_in texts)

in_visits : (clock : Option Clock) (places : List Place) (d number at : ℕ) (vs : List Visit) → All (All IsNoFormula) (visit_cells clock places d number at vs)
in_visits clock places d number at [] = All-nil (All IsNoFormula)
in_visits clock places d number at (v ∷ vs) =
    All-cons (All IsNoFormula) (map cell_of (visit_texts clock places d number at v)) (visit_cells clock places d number (at + 1) vs)
    (no_formula_in (visit_texts clock places d number at v)) (in_visits clock places d number (at + 1) vs)

in_routes : (clock : Option Clock) (places : List Place) (d : ℕ) (rs : List RouteSchedule) → All (All IsNoFormula) (route_cells clock places d rs)
in_routes clock places d [] = All-nil (All IsNoFormula)
in_routes clock places d (r ∷ rs) =
    All-append (All IsNoFormula) (visit_cells clock places d r.number 0 r.visits) (route_cells clock places d rs) (in_visits clock places d r.number 0 r.visits) (in_routes clock places d rs)

in_plan : (clock : Option Clock) (places : List Place) (schedule : Option Schedule) → All (All IsNoFormula) (plan_cells clock places schedule)
in_plan clock places None = All-nil (All IsNoFormula)
in_plan clock places (Some s) = in_routes clock places s.denominator s.routes

pub no_formulas : (clock : Option Clock) (places : List Place) (schedule : Option Schedule) → All (All IsNoFormula) (csv_cells clock places schedule)
no_formulas clock places schedule = All-cons (All IsNoFormula) (map cell_of (column_names places)) (plan_cells clock places schedule) (no_formula_in (column_names places)) (in_plan clock places schedule)

-- ---- the cells of a record, part by part

more_both : (xs ys : List (List ℕ)) → more_fields (xs ++ ys) ≡ more_fields xs ++ more_fields ys
more_both [] ys = refl
more_both (x ∷ xs) ys =
    ap (λ (rest : List ℕ). (codes "," ++ field_text x) ++ rest) (more_both xs ys) ∙ sym (append_assoc (codes "," ++ field_text x) (more_fields xs) (more_fields ys))

named_both : (places : List Place) (name : List ℕ) (texts : List (List ℕ))
    → more_fields (map cell_of (with_name places name texts)) ≡ more_fields (map cell_of (with_name places name [])) ++ more_fields (map cell_of texts)
named_both [] name texts = refl
named_both (p ∷ ps) name texts = more_both (map cell_of (name ∷ [])) (map cell_of texts)

pub record_parts : (places : List Place) (first stop node name : List ℕ) (texts : List (List ℕ))
    → record_text (map cell_of (first ∷ stop ∷ node ∷ with_name places name texts))
    ≡ (((field_text (cell_of first) ++ more_fields (map cell_of (stop ∷ node ∷ []))) ++ more_fields (map cell_of (with_name places name []))) ++ more_fields (map cell_of texts)) ++ codes "\n"
record_parts places first stop node name texts =
    let f : List ℕ = field_text (cell_of first) in
    let m : List ℕ = more_fields (map cell_of (stop ∷ node ∷ [])) in
    let n : List ℕ = more_fields (map cell_of (with_name places name [])) in
    let s : List ℕ = more_fields (map cell_of texts) in
    let rest = more_both (map cell_of (stop ∷ node ∷ [])) (map cell_of (with_name places name texts)) ∙ ap (λ (w : List ℕ). m ++ w) (named_both places name texts) in
    ap (λ (w : List ℕ). (f ++ w) ++ codes "\n") rest
    ∙ ap (λ (w : List ℕ). w ++ codes "\n") (sym (append_assoc f m (n ++ s)) ∙ sym (append_assoc (f ++ m) n s))

-- ---- a cell as the kit writes it

same_or : (p q r t : Bool) → (((p || q) || r) || t) ≡ ((((p || q) || (r || t)) || false) || false)
same_or true q r t = refl
same_or false true r t = refl
same_or false false true t = refl
same_or false false false true = refl
same_or false false false false = refl

same_byte : (b : ℕ) → calls_for_quotes b ≡ needs_byte default_writer b
same_byte b = same_or (b == 44) (b == 34) (b == 13) (b == 10)

same_test : (cell : List ℕ) → list_any calls_for_quotes cell ≡ list_any (needs_byte default_writer) cell
same_test [] = refl
same_test (b ∷ bs) = ap (λ t. t || list_any calls_for_quotes bs) (same_byte b) ∙ ap (λ t. needs_byte default_writer b || t) (same_test bs)

same_doubled : (cell : List ℕ) → doubled cell ≡ escaped default_writer cell
unfolding escaped
same_doubled [] = refl
same_doubled (b ∷ bs) = ap (λ (rest : List ℕ). if b == 34 then 34 ∷ b ∷ rest else b ∷ rest) (same_doubled bs)

same_field : (cell : List ℕ) → field_text cell ≡ writing.field_text default_writer cell
same_field cell =
    ap (λ t. if t then 34 ∷ (doubled cell ++ (34 ∷ [])) else cell) (same_test cell)
    ∙ ap (λ (text : List ℕ). if list_any (needs_byte default_writer) cell then 34 ∷ (text ++ (34 ∷ [])) else cell) (same_doubled cell)

same_more : (cells : List (List ℕ)) → more_fields cells ≡ fields_text default_writer cells
unfolding fields_text
same_more [] = refl
same_more (cell ∷ cells) =
    ap (λ (text : List ℕ). 44 ∷ (text ++ more_fields cells)) (same_field cell)
    ∙ ap (λ (text : List ℕ). 44 ∷ (writing.field_text default_writer cell ++ text)) (same_more cells)

same_record : (x y : List ℕ) (ys : List (List ℕ)) → record_text (x ∷ y ∷ ys) ≡ row_text default_writer (x ∷ y ∷ ys)
unfolding is_blank
same_record x y ys =
    ap (λ (text : List ℕ). (text ++ more_fields (y ∷ ys)) ++ (10 ∷ [])) (same_field x)
    ∙ ap (λ (text : List ℕ). (writing.field_text default_writer x ++ text) ++ (10 ∷ [])) (same_more (y ∷ ys))

-- ---- what is read

abbrev HasTwo : List (List ℕ) → Type 0
HasTwo [] = ⊥
HasTwo (x ∷ []) = ⊥
HasTwo (x ∷ y ∷ ys) = Unit {0}

record_is_read : (cells : List (List ℕ)) (tail : List ℕ) → HasTwo cells
    → next_record default_config state.StartRecord [] [] (record_text cells ++ tail) ≡ Some (cells, state.StartRecord, tail)
record_is_read [] tail two = absurd two
record_is_read (x ∷ []) tail two = absurd two
record_is_read (x ∷ y ∷ ys) tail two =
    ap (λ (text : List ℕ). next_record default_config state.StartRecord [] [] (text ++ tail)) (same_record x y ys) ∙ read-write (x ∷ y ∷ ys) tail

end_is_read : next_record default_config state.StartRecord [] [] [] ≡ None
unfolding next_record
end_is_read = refl

records_are_read : (most : ℕ) (rows : List (List (List ℕ))) → AllByRecursion HasTwo rows → length rows ≤ most
    → records_from default_config most state.StartRecord (joined_texts record_text rows) ≡ rows
unfolding records_from
records_are_read zero [] two few = refl
records_are_read (suc most) [] two few = ap (λ (found : Option (List (List ℕ) × State × List ℕ)). records_next (records_from default_config most) found) end_is_read
records_are_read zero (row ∷ rows) two few = absurd (omega (arith, few))
records_are_read (suc most) (row ∷ rows) two few =
    let less : length rows ≤ most = omega (arith, few) in
    ap (λ (found : Option (List (List ℕ) × State × List ℕ)). records_next (records_from default_config most) found) (record_is_read row (joined_texts record_text rows) two.0)
    ∙ ap (λ (others : List (List (List ℕ))). row ∷ others) (records_are_read most rows two.1 less)

visits_have_two : (clock : Option Clock) (places : List Place) (d number at : ℕ) (vs : List Visit) → AllByRecursion HasTwo (visit_cells clock places d number at vs)
visits_have_two clock places d number at [] = tt
visits_have_two clock places d number at (v ∷ vs) = (tt, visits_have_two clock places d number (at + 1) vs)

both_have_two : (xs ys : List (List (List ℕ))) → AllByRecursion HasTwo xs → AllByRecursion HasTwo ys → AllByRecursion HasTwo (xs ++ ys)
both_have_two [] ys first second = second
both_have_two (x ∷ xs) ys first second = (first.0, both_have_two xs ys first.1 second)

routes_have_two : (clock : Option Clock) (places : List Place) (d : ℕ) (rs : List RouteSchedule) → AllByRecursion HasTwo (route_cells clock places d rs)
routes_have_two clock places d [] = tt
routes_have_two clock places d (r ∷ rs) =
    both_have_two (visit_cells clock places d r.number 0 r.visits) (route_cells clock places d rs) (visits_have_two clock places d r.number 0 r.visits) (routes_have_two clock places d rs)

plan_has_two : (clock : Option Clock) (places : List Place) (schedule : Option Schedule) → AllByRecursion HasTwo (plan_cells clock places schedule)
plan_has_two clock places None = tt
plan_has_two clock places (Some s) = routes_have_two clock places s.denominator s.routes

pub reads_back : (clock : Option Clock) (places : List Place) (schedule : Option Schedule) (most : ℕ) → length (csv_cells clock places schedule) ≤ most
    → records_from default_config most state.StartRecord (csv_text clock places schedule) ≡ csv_cells clock places schedule
reads_back clock places schedule most few = records_are_read most (csv_cells clock places schedule) (tt, plan_has_two clock places schedule) few
