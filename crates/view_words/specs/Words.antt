-- The job that the words of `evview` name: a function of what the command finds in them.
use Rattle.std.specs.Prelude.{◌&&◌, ◌||◌, ℕ, Bool, false, is_none, is_some, List, [], ◌∷◌, Option, None, Some, codes, option_and_then, option_map, if◌then◌else◌}
use Rattle.std.specs.Option.{option_map_or}
use Rattle.std.specs.Str.{bytes_eq}
use Rattle.clap.specs.Words.{Row, Text, fault_of, first_of, matches_of}
use Rattle.call_words.specs.Matches.{job_unless, limit_in}
use Rattle.call_words.specs.Names.{are_different}
use Rattle.call_words.specs.Numbers.{most_value, optional_number}
use Rattle.job_telling.specs.Words.{told_by, told_or}
use Rattle.job_telling.specs.declared.words.Told.{Told}
use Rattle.view_words.specs.Clocks.{clock_of}
use Rattle.view_words.specs.Command.{evview}
use Rattle.view_words.specs.Forms.{form_of}
use Rattle.view_words.specs.declared.clock.DayClock.{DayClock}
use Rattle.view_words.specs.declared.form.PlanForm.{PlanForm}

-- the job of showing a plan: the names of the files with the instance and the plan, the limit where
-- one is given, the number of the one route that is shown where it is given, which form the plan
-- has, whether times are shown as they are scaled, the clock by which is told when something
-- happens where one is given, the name of the file with the names of places where it is given, and
-- the names of the files into which the pictures, the schedule, as JSON and as CSV, and a map are
-- written, where they are given
pub record ViewPlan : Type 0 where
  pub file : Text
  pub plan : Text
  pub limit : Option ℕ
  pub route : Option ℕ
  pub form : PlanForm
  pub exact : Bool
  pub clock : Option DayClock
  pub places : Option Text
  pub svg : Option Text
  pub json : Option Text
  pub csv : Option Text
  pub map : Option Text

-- of showing a plan, or of telling people of the program alone
pub data Job : Type 0 where
  Viewing : ViewPlan → Job
  Telling : Told → Job

-- the number of the route that is shown, where it is given; none where its value is no number of
-- one
abbrev pub route_in : List Row → Option (Option ℕ)
route_in rows = optional_number most_value (first_of (codes "route") rows)

-- whether the flag of this name stands among the words
abbrev pub flag_in : Text → List Row → Bool
flag_in name rows =
    option_map_or (λ value. bytes_eq value (codes "true")) (first_of name rows) false

-- the level at which the vehicle of a route starts, where it is given; none where its value is no
-- number of one
abbrev pub charge_in : List Row → Option (Option ℕ)
charge_in rows = optional_number most_value (first_of (codes "charge") rows)

-- the form of the plan; none where the words for it don't go together
abbrev pub form_in : List Row → Option PlanForm
form_in rows =
    option_and_then (form_of (flag_in (codes "partial") rows) (flag_in (codes "fixed") rows))
    (charge_in rows)

-- the clock, where it is given; none where its words are no clock
abbrev pub clock_in : List Row → Option (Option DayClock)
clock_in rows = clock_of (first_of (codes "begin") rows) (first_of (codes "unit") rows)

-- the name of the file with the names of places
abbrev pub places_in : List Row → Option Text
places_in rows = first_of (codes "places") rows

-- the name of the file for the pictures
abbrev pub svg_in : List Row → Option Text
svg_in rows = first_of (codes "svg") rows

-- the name of the file for the schedule
abbrev pub json_in : List Row → Option Text
json_in rows = first_of (codes "json") rows

-- the name of the file for the schedule as CSV
abbrev pub csv_in : List Row → Option Text
csv_in rows = first_of (codes "csv") rows

-- the name of the file for the map
abbrev pub map_in : List Row → Option Text
map_in rows = first_of (codes "map") rows

-- a map is drawn by the places of a file, so it asks for one
abbrev pub has_places : Option Text → Option Text → Bool
has_places map places = is_none map || is_some places

-- the names that are given
abbrev pub given_names : List (Option Text) → List Text
given_names [] = []
given_names (None ∷ names) = given_names names
given_names (Some name ∷ names) = name ∷ given_names names

-- the names of all files: of those that are written, and of those that are read
abbrev pub all_names : Text → Text → List Row → List Text
all_names file plan rows =
    given_names
    (svg_in rows ∷ json_in rows ∷ csv_in rows ∷ map_in rows ∷ places_in rows ∷ Some file
    ∷ Some plan ∷ [])

-- the job of these words
abbrev pub view_job_of : Text → Text → Option ℕ → Option ℕ → PlanForm → Bool → Option DayClock →
    Option Text → Option Text → Option Text → Option Text → Option Text → ViewPlan
view_job_of file plan limit route form exact clock places svg json csv map = record {
  file = file;
  plan = plan;
  limit = limit;
  route = route;
  form = form;
  exact = exact;
  clock = clock;
  places = places;
  svg = svg;
  json = json;
  csv = csv;
  map = map;
}

-- the names of the files that a job writes
abbrev pub written_names : ViewPlan → List Text
written_names job = given_names (job.svg ∷ job.json ∷ job.csv ∷ job.map ∷ [])

-- the same, where the values of the options are numbers and a clock
abbrev pub view_with : Text → Text → Option (Option ℕ) → Option (Option ℕ) → Option PlanForm →
    Option (Option DayClock) → List Row → Option ViewPlan
view_with file plan (Some limit) (Some route) (Some form) (Some clock) rows =
    Some (view_job_of file plan limit route form
    (flag_in (codes "exact") rows) clock (places_in rows) (svg_in rows)
    (json_in rows) (csv_in rows) (map_in rows))
view_with file plan limit route form clock rows = None

-- `FILE PLAN [--limit N] [--route N] [--partial] [--fixed [--charge N]] [--exact] [--begin HH:MM
-- --unit U] [--places FILE] [--svg OUT] [--json OUT] [--csv OUT] [--map OUT]`, where `--map` asks
-- for `--places`
abbrev pub view_of : Text → Text → List Row → Option ViewPlan
view_of file plan rows =
    if are_different (all_names file plan rows) && has_places (map_in rows) (places_in rows)
    then view_with file plan (limit_in rows) (route_in rows) (form_in rows) (clock_in rows) rows
    else None

-- the job of what the command finds
abbrev pub job_in : List Row → Option ViewPlan
job_in rows =
    option_and_then (λ file. option_and_then (λ plan. view_of file plan rows)
    (first_of (codes "plan") rows)) (first_of (codes "file") rows)

-- the words with the name of the program in front of them
abbrev pub named : List Text → List Text
named words = codes "evview" ∷ words

-- the job of what the command finds in the words, if they name one
abbrev pub command_job : List Text → Option ViewPlan
command_job words =
    job_unless (fault_of evview (named words)) (job_in (matches_of evview (named words)))

-- the job of the words, if they name one: they ask of the program alone, or for a plan to be shown
abbrev pub job_of : List Text → Option Job
job_of words =
    told_or (λ told. Telling told) (told_by words)
    (option_map (λ job. Viewing job) (command_job words))
