-- The contents of a made value.
use Rattle.std.proofs.Common.{◌≡◌, ◌∙◌, ℕ, ◌+◌, List, [], ◌∷◌, ◌++◌, None, Some, ap, map, refl, replicate, sym}
use Rattle.std.proofs.lemmas.List.{map-append}
use Rattle.serde_json.proofs.OnLiterals.{serde_json_on_literals}
use Rattle.serde_json.specs.Data.{Data}
use Rattle.instance_maker.specs.Lists.{tabulate}
use Rattle.instance_maker.specs.Locations.{distance_between, locations_of}
use Rattle.instance_maker.specs.MadeInstance.{array_of, curves_value, distances_value, made_value, process_times_value, station_value, stations_value, whole}
use Rattle.instance_reader.specs.Contents.{Contents, CurveOfType, Station, contents_of, curve_in, items_in, number_in, numbers_in, rows_in, station_in}
use Rattle.instance_maker.proofs.Along.{list_of-items_of, map-tabulate, numbers_mapped, numbers_replicated}
use Rattle.instance_maker.specs.MadeContents.{curves_made, distances_made, made_contents, process_times_made, station_made}

pub items_in_array : (ds : List Data) → items_in (Some (array_of ds)) ≡ ds
items_in_array ds = list_of-items_of ds

stations_in : (customers stations : ℕ) → map station_in (items_in (Some (stations_value customers stations))) ≡ tabulate (station_made customers) stations
unfolding serde_json_on_literals
stations_in customers stations =
    let entry : ℕ → Data = λ k. station_value k (1 + customers + k) in
    ap (λ ds. map station_in ds) (items_in_array (tabulate entry stations)) ∙ map-tabulate station_in entry stations

curves_in : map curve_in (items_in (Some curves_value)) ≡ curves_made
unfolding serde_json_on_literals
curves_in = refl

process_times_in : (customers stations : ℕ) → numbers_in (Some (process_times_value customers stations)) ≡ process_times_made customers stations
process_times_in customers stations =
    let number : Data → ℕ = λ d. number_in (Some d) in
    ap (λ ds. map number ds) (items_in_array (whole 0 ∷ replicate customers (whole 5) ++ replicate stations (whole 0)))
    ∙ ap (λ ns. 0 ∷ ns) (map-append number (replicate customers (whole 5)) (replicate stations (whole 0))
    ∙ ap (λ ns. ns ++ map number (replicate stations (whole 0))) (numbers_replicated customers 5)
    ∙ ap (λ ns. replicate customers 5 ++ ns) (numbers_replicated stations 0))

row_in : (from : _) (locations : List _) → numbers_in (Some (array_of (map (λ to. whole (distance_between from to)) locations))) ≡ map (λ to. distance_between from to) locations
row_in from locations =
    ap (λ ds. map (λ d. number_in (Some d)) ds) (items_in_array (map (λ to. whole (distance_between from to)) locations))
    ∙ numbers_mapped (λ to. distance_between from to) locations

rows_mapped : (locations froms : List _) →
    map (λ d. numbers_in (Some d)) (map (λ from. array_of (map (λ to. whole (distance_between from to)) locations)) froms) ≡ map (λ from. map (λ to. distance_between from to) locations) froms
rows_mapped locations [] = refl
rows_mapped locations (from ∷ froms) = rw (row_in from locations) (ap (λ rows. map (λ to. distance_between from to) locations ∷ rows) (rows_mapped locations froms))

distances_in : (locations : List _) → rows_in (Some (distances_value locations)) ≡ map (λ from. map (λ to. distance_between from to) locations) locations
distances_in locations =
    ap (λ ds. map (λ d. numbers_in (Some d)) ds) (items_in_array (map (λ from. array_of (map (λ to. whole (distance_between from to)) locations)) locations))
    ∙ rows_mapped locations locations

-- the contents with these lists
with_lists : List Station → List CurveOfType → List ℕ → List (List ℕ) → List (List ℕ) → Contents
with_lists stations curves process_times energies times = record {
  capacity = 1600;
  stations = stations;
  curves = curves;
  process_times = process_times;
  energies = energies;
  times = times;
  t_max = None;
  max_t = None;
  reserve = 0;
  home_level = 0;
}

parts_of : (seed customers stations : ℕ) → contents_of (made_value seed customers stations) ≡
    with_lists (map station_in (items_in (Some (stations_value customers stations)))) (map curve_in (items_in (Some curves_value))) (numbers_in (Some (process_times_value customers stations)))
    (rows_in (Some (distances_value (locations_of seed (1 + customers + stations))))) (rows_in (Some (distances_value (locations_of seed (1 + customers + stations)))))
unfolding contents_of made_value with_lists serde_json_on_literals
parts_of seed customers stations = refl

made_of_parts : (seed customers stations : ℕ) → made_contents seed customers stations ≡
    with_lists (tabulate (station_made customers) stations) curves_made (process_times_made customers stations)
    (distances_made seed (1 + customers + stations)) (distances_made seed (1 + customers + stations))
unfolding made_contents with_lists
made_of_parts seed customers stations = refl

same_lists : {s s' : List Station} {c c' : List CurveOfType} {p p' : List ℕ} {e e' : List (List ℕ)} → s ≡ s' → c ≡ c' → p ≡ p' → e ≡ e' → with_lists s c p e e ≡ with_lists s' c' p' e' e'
same_lists {s} {s'} {c} {c'} {p} {p'} {e} {e'} is_s is_c is_p is_e =
    ap (λ x. with_lists x c p e e) is_s ∙ ap (λ x. with_lists s' x p e e) is_c ∙ ap (λ x. with_lists s' c' x e e) is_p ∙ ap (λ x. with_lists s' c' p' x x) is_e

pub contents_made : (seed customers stations : ℕ) → contents_of (made_value seed customers stations) ≡ made_contents seed customers stations
contents_made seed customers stations =
    parts_of seed customers stations
    ∙ same_lists (stations_in customers stations) curves_in (process_times_in customers stations) (distances_in (locations_of seed (1 + customers + stations)))
    ∙ sym (made_of_parts seed customers stations)
