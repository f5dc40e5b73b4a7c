-- Names of which the first ones stand alone.
use Rattle.std.proofs.Common.{◌≡◌, ◌∙◌, ◌&&◌, ◌||◌, List, [], ◌∷◌, ◌++◌, not, true, Option, None, Some, ap, refl}
use Rattle.std.specs.Str.{bytes_eq}
use Rattle.std.proofs.lemmas.Bool.{and_parts, not-true, or_parts}
use Rattle.clap.specs.Words.{Text}
use Rattle.call_words.specs.Names.{are_different, is_listed}
use Rattle.view_words.specs.Words.{given_names}

-- a text that isn't listed among more names isn't listed among the first of them
first_listed : (name : Text) (names more : List (Option Text)) → not (is_listed name (given_names (names ++ more))) ≡ true → not (is_listed name (given_names names)) ≡ true
first_listed name [] more other = refl
first_listed name (None ∷ names) more other = first_listed name names more other
first_listed name (Some text ∷ names) more other =
    let parts = or_parts (bytes_eq text name) (is_listed name (given_names (names ++ more))) (not-true _ other) in
    let behind = first_listed name names more (ap not parts.1) in
    ap not (ap (λ test. test || is_listed name (given_names names)) parts.0 ∙ not-true _ behind)

-- of names that are pairwise different, the first ones are
pub first_differ : (names more : List (Option Text)) → are_different (given_names (names ++ more)) ≡ true → are_different (given_names names) ≡ true
first_differ [] more differ = refl
first_differ (None ∷ names) more differ = first_differ names more differ
first_differ (Some name ∷ names) more differ =
    let parts = and_parts (not (is_listed name (given_names (names ++ more)))) (are_different (given_names (names ++ more))) differ in
    let here = first_listed name names more parts.0 in
    let behind = first_differ names more parts.1 in
    ap (λ test. test && are_different (given_names names)) here ∙ behind

-- so are the names of the files that are written, among those of all files
pub written_differ : (svg json csv map : Option Text) (more : List (Option Text)) (own_svg own_json own_csv own_map : Option Text) → own_svg ≡ svg → own_json ≡ json → own_csv ≡ csv → own_map ≡ map
    → are_different (given_names (svg ∷ json ∷ csv ∷ map ∷ more)) ≡ true → are_different (given_names (own_svg ∷ own_json ∷ own_csv ∷ own_map ∷ [])) ≡ true
written_differ svg json csv map more own_svg own_json own_csv own_map is_svg is_json is_csv is_map differ =
    rw is_svg (rw is_json (rw is_csv (rw is_map (first_differ (svg ∷ json ∷ csv ∷ map ∷ []) more differ))))
