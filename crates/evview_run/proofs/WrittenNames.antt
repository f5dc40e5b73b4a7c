-- The files that are written have different names.
use Rattle.std.proofs.Common.{◌≡◌, ◌≢◌, ◌∙◌, ℕ, List, [], ◌∷◌, ◌++◌, false, not, true, Option, None, Some, ap, append_assoc, map, refl, subst, sym}
use Rattle.std.specs.Str.{bytes_eq}
use Rattle.std.proofs.lemmas.Bool.{and_parts, not-true, or_parts}
use Rattle.std.proofs.lemmas.Bool.Decides.{not_from_Decides}
use Rattle.std.proofs.lemmas.List.{append-nil}
use Rattle.std.proofs.lemmas.Slice.Eq.{bytes_eq-Decides}
use Rattle.call_words.specs.Names.{are_different, is_listed}
use Rattle.job_frame.specs.Writes.{AreDifferent, IsNoneOf, Written}
use Rattle.view_words.specs.Words.{ViewPlan, given_names, written_names}
use Rattle.place_names.specs.declared.place.Place.{Place}
use Rattle.plan_schedule.specs.declared.schedule.Schedule.{Schedule}
use Rattle.schedule_texts.specs.JsonTexts.{json_text}
use Rattle.schedule_texts.specs.Maps.{map_text}
use Rattle.schedule_texts.specs.Pictures.{picture_text}
use Rattle.schedule_texts.specs.Spreadsheets.{csv_text}
use Rattle.evview_run.specs.ViewAnswer.{clock_of, file_of, files_of}

-- a name that isn't listed is none of theirs
none_of : (name : List ℕ) (ws : List Written) → is_listed name (map (λ w. w.name) ws) ≡ false → IsNoneOf name ws
none_of name [] is = tt
none_of name (w ∷ ws) is =
    let parts = or_parts (bytes_eq w.name name) (is_listed name (map (λ w. w.name) ws)) is in
    let other : w.name ≢ name = not_from_Decides (bytes_eq w.name name) (bytes_eq-Decides w.name name) parts.0 in
    (λ same. other (sym same), none_of name ws parts.1)

pub are_apart : (ws : List Written) → are_different (map (λ w. w.name) ws) ≡ true → AreDifferent ws
are_apart [] is = tt
are_apart (w ∷ ws) is =
    let parts = and_parts (not (is_listed w.name (map (λ w. w.name) ws))) (are_different (map (λ w. w.name) ws)) is in
    (none_of w.name ws (not-true (is_listed w.name (map (λ w. w.name) ws)) parts.0), are_apart ws parts.1)

-- a file in front of others has its name in front of theirs, where it has one
given_first : (name : Option (List ℕ)) (bytes : List ℕ) (ws : List Written) (names : List (Option (List ℕ)))
    → map (λ w. w.name) ws ≡ given_names names → map (λ w. w.name) (file_of name bytes ++ ws) ≡ given_names (name ∷ names)
given_first None bytes ws names are = are
given_first (Some name) bytes ws names are = ap (λ (ns : List (List ℕ)). name ∷ ns) are

pub files_differ : (job : ViewPlan) (places : List Place) (shown : Option Schedule) (ws : List Written) → are_different (written_names job) ≡ true → ws ≡ files_of job places shown → AreDifferent ws
files_differ job places shown ws differ is =
    let clock = clock_of job.clock in
    let drawn = file_of job.map (map_text places shown) in
    let rows = file_of job.csv (csv_text clock places shown) in
    let schedule = file_of job.json (json_text clock places shown) in
    let pictures = file_of job.svg (picture_text clock places shown) in
    let alone : map (λ w. w.name) (drawn ++ []) ≡ given_names (job.map ∷ []) = given_first job.map (map_text places shown) [] [] refl in
    let last : map (λ w. w.name) drawn ≡ given_names (job.map ∷ []) =
    subst (λ (fs : List Written). map (λ w. w.name) fs ≡ given_names (job.map ∷ [])) (append-nil drawn) alone in
    let both = given_first job.csv (csv_text clock places shown) drawn (job.map ∷ []) last in
    let more = given_first job.json (json_text clock places shown) (rows ++ drawn) (job.csv ∷ job.map ∷ []) both in
    let all = given_first job.svg (picture_text clock places shown) (schedule ++ (rows ++ drawn)) (job.json ∷ job.csv ∷ job.map ∷ []) more in
    let apart : ws ≡ pictures ++ (schedule ++ (rows ++ drawn)) =
    is ∙ append_assoc (pictures ++ schedule) rows drawn ∙ append_assoc pictures schedule (rows ++ drawn) in
    are_apart ws (subst (λ (names : List (List ℕ)). are_different names ≡ true) (sym (ap (λ (fs : List Written). map (λ w. w.name) fs) apart ∙ all)) differ)
