-- A made value has each required key, and each value in it is of its field's kind.
use Rattle.std.proofs.Common.{◌≡◌, ◌∙◌, ℕ, ◌+◌, List, ◌∷◌, ◌++◌, Option, None, Some, ap, map, refl, replicate}
use Rattle.serde_json.proofs.OnLiterals.{serde_json_on_literals}
use Rattle.serde_json.specs.Data.{Data}
use Rattle.instance_maker.proofs.MadeLemmas.{AllOf}
use Rattle.instance_maker.specs.Locations.{distance_between, locations_of}
use Rattle.instance_maker.specs.MadeInstance.{array_of, curves_value, distances_value, made_value, process_times_value, station_value, stations_value, whole}
use Rattle.instance_reader.specs.Kinds.{first_wrong_kind, in_array, no_curve, no_station, not_rows, not_whole, not_wholes}
use Rattle.instance_reader.specs.Places.{at_key, item_of}
use Rattle.instance_reader.specs.RequiredKeys.{first_missing}
use Rattle.instance_reader.specs.Search.{look_along}
use Rattle.instance_reader.specs.declared.places.Key.{Key}
use Rattle.instance_reader.specs.declared.places.Key.TheVariants.{Breaks, Css, Energy, Service, Time}
use Rattle.instance_reader.specs.declared.places.Place.{Place}
use Rattle.instance_maker.proofs.Along.{AllOf-append, AllOf-each, AllOf-map, AllOf-replicate, AllOf-tabulate, along_none, list_of-items_of, none_then}

-- an array passes where each item does
array_passes : (look : Place → Data → Option Place) (place : Place) (ds : List Data) →
    AllOf (λ d. (at : Place) → look at d ≡ None) ds → in_array look place (Some (array_of ds)) ≡ None
array_passes look place ds all =
    ap (λ (xs : List Data). look_along look place xs) (list_of-items_of ds)
    ∙ along_none (λ number. look (item_of place number)) (λ d. (at : Place) → look at d ≡ None) (λ k d each. each (item_of place k)) 0 ds all

stations_pass : (customers stations : ℕ) → in_array no_station (at_key Css) (Some (stations_value customers stations)) ≡ None
unfolding serde_json_on_literals
stations_pass customers stations =
    array_passes no_station (at_key Css) _ (AllOf-tabulate _ (λ k. station_value k (1 + customers + k)) stations (λ k at. refl))

curves_pass : in_array no_curve (at_key Breaks) (Some curves_value) ≡ None
unfolding serde_json_on_literals
curves_pass = refl

-- a number passes
IsPassed : Data → Type 0
IsPassed d = (at : Place) → not_whole at (Some d) ≡ None

number_passes : (n : ℕ) → IsPassed (whole n)
unfolding IsPassed
number_passes n = λ at. refl

numbers_pass : (place : Place) (ds : List Data) → AllOf IsPassed ds → not_wholes place (Some (array_of ds)) ≡ None
unfolding IsPassed
numbers_pass place ds all = array_passes (λ at d. not_whole at (Some d)) place ds all

process_times_pass : (customers stations : ℕ) → not_wholes (at_key Service) (Some (process_times_value customers stations)) ≡ None
process_times_pass customers stations =
    numbers_pass (at_key Service) (whole 0 ∷ replicate customers (whole 5) ++ replicate stations (whole 0)) (
      number_passes 0,
      AllOf-append IsPassed (replicate customers (whole 5)) (replicate stations (whole 0))
          (AllOf-replicate IsPassed customers (whole 5) (number_passes 5)) (AllOf-replicate IsPassed stations (whole 0) (number_passes 0)),
    )

row_passes : (place : Place) (from : _) (locations : List _) → not_wholes place (Some (array_of (map (λ to. whole (distance_between from to)) locations))) ≡ None
row_passes place from locations =
    numbers_pass place _ (AllOf-map (λ to. Unit {0}) IsPassed (λ to. whole (distance_between from to)) (λ to any. number_passes (distance_between from to)) locations
    (AllOf-each (λ to. Unit {0}) (λ to. tt) locations))

rows_pass : (key : Key) (locations : List _) → not_rows (at_key key) (Some (distances_value locations)) ≡ None
rows_pass key locations =
    array_passes (λ at d. not_wholes at (Some d)) (at_key key) _
    (AllOf-map (λ from. Unit {0}) _ (λ from. array_of (map (λ to. whole (distance_between from to)) locations)) (λ from any at. row_passes at from locations) locations
    (AllOf-each (λ from. Unit {0}) (λ from. tt) locations))

pub no_key_is_missing : (seed customers stations : ℕ) → first_missing (made_value seed customers stations) ≡ None
unfolding first_missing made_value serde_json_on_literals
no_key_is_missing seed customers stations = refl

pub no_kind_is_wrong : (seed customers stations : ℕ) → first_wrong_kind (made_value seed customers stations) ≡ None
unfolding first_wrong_kind made_value serde_json_on_literals
no_kind_is_wrong seed customers stations =
    let locations = locations_of seed (1 + customers + stations) in
    none_then _ _ refl (none_then _ _ (stations_pass customers stations) (none_then _ _ curves_pass (none_then _ _ (process_times_pass customers stations)
    (none_then _ _ (rows_pass Energy locations) (none_then _ _ (rows_pass Time locations) (none_then _ _ refl (none_then _ _ refl (none_then _ _ refl (none_then _ _ refl refl)))))))))
