-- What is written and put for the bytes of an instance, of a plan file, and of a file with places.
use Rattle.std.specs.Prelude.{◌≡◌, ℕ, ◌+◌, ◌<◌, ◌≤◌, ◌⊎◌, true, nat_eq, nat_lt, List, [], ◌∷◌, ◌++◌, Option, None, Some, Result, Ok, Err, Bool, codes, decimal, is_some, length, option_and_then, option_map, if◌then◌else◌}
use Rattle.std.specs.List.{All}
use Rattle.ev_model.specs.Feasible.{IsFeasible}
use Rattle.ev_model.specs.Fleet.{cost_of}
use Rattle.ev_model.specs.Network.{Network, node_count}
use Rattle.fleet_steps.specs.PlanFile.{BreaksFirst, IsValid}
use Rattle.fleet_steps.specs.Heard as fleet
use Rattle.job_frame.specs.Heard.{HearsDone, HearsRefusal}
use Rattle.job_frame.specs.Task.{Outcome, Read, Task}
use Rattle.job_frame.specs.Writes.{Written}
use Rattle.job_frame.specs.declared.status.Status.{Status}
use Rattle.job_frame.specs.declared.status.Status.TheVariants as status
use Rattle.job_frame.specs.Caps.{file_read}
use Rattle.place_names.specs.Reading.{ArePlacesOf, IsFirstFault}
use Rattle.place_names.specs.declared.faults.EntryFault.{EntryFault}
use Rattle.place_names.specs.declared.faults.EntryFault.TheVariants as entry
use Rattle.place_names.specs.declared.faults.PlacesEnded.{PlacesEnded}
use Rattle.place_names.specs.declared.faults.PlacesEnded.TheVariants as ended
use Rattle.place_names.specs.declared.faults.PlacesFault.{PlacesFault}
use Rattle.place_names.specs.declared.faults.PlacesFault.TheVariants as places_fault
use Rattle.place_names.specs.declared.place.Place.{Place}
use Rattle.plan_check.specs.FleetRules.{IsCustomer, rule_of, stops_of, times_served}
use Rattle.plan_check.specs.declared.fault.PlanFault.{PlanFault}
use Rattle.plan_check.specs.declared.fault.PlanFault.TheVariants.{Walk}
use Rattle.plan_schedule.specs.Schedules.{only, schedule_of, times_of}
use Rattle.plan_schedule.specs.declared.schedule.Schedule.{Schedule}
use Rattle.refusal_lines.specs.RejectedText.{rejected_text}
use Rattle.refusal_lines.specs.RefusalText.{IsRule, refusal_text}
use Rattle.refusal_lines.specs.declared.refusal.Refusal.{Refusal}
use Rattle.report_lines.specs.Lines.{number_line, time_text}
use Rattle.route_plan.specs.Walking.{walk_along}
use Rattle.route_plan.specs.declared.plan.FleetPlan.{FleetPlan}
use Rattle.route_plan.specs.declared.plan.RoutePlan.{RoutePlan}
use Rattle.route_plan.specs.declared.walks.Walk.{Walk as WalkEnd}
use Rattle.route_plan.specs.declared.walks.WalkFault.{WalkFault}
use Rattle.schedule_texts.specs.JsonTexts.{json_text}
use Rattle.schedule_texts.specs.Maps.{map_text}
use Rattle.schedule_texts.specs.Pictures.{picture_text}
use Rattle.schedule_texts.specs.Spreadsheets.{csv_text}
use Rattle.schedule_texts.specs.Tables.{table_text}
use Rattle.schedule_texts.specs.declared.clock.Clock.{Clock}
use Rattle.view_words.specs.Words.{ViewPlan}
use Rattle.view_words.specs.declared.clock.DayClock.{DayClock}
use Rattle.view_words.specs.declared.form.PlanForm.{PlanForm}
use Rattle.view_words.specs.declared.form.PlanForm.TheVariants as plan_form
use Rattle.evview_run.specs.Held.{HasStart, HoldsPlans, IsTextRefused}
use Rattle.evview_run.specs.declared.cause.Cause.{Cause}
use Rattle.evview_run.specs.declared.cause.Cause.TheVariants as cause
use Rattle.evview_run.specs.declared.held.HeldPlans.{HeldPlans}

-- how many routes there are
abbrev pub route_count : Option FleetPlan → ℕ
route_count None = 0
route_count (Some plan) = length plan.routes

-- the one route that is asked for, where one is, is there
abbrev pub HasRoute : Option ℕ → Option FleetPlan → Type 0
HasRoute None plan = Unit {0}
HasRoute (Some number) plan = number < route_count plan

-- the line of a route that isn't there
abbrev pub no_route_text : ℕ → List ℕ
no_route_text number = codes "refused number " ++ decimal number ++ 10 ∷ []

-- what is wrong with an entry of a file of places
abbrev pub entry_words : EntryFault → List ℕ
entry_words entry.NoObject = codes "refused places entry "
entry_words entry.Name = codes "refused places name "
entry_words entry.Character = codes "refused places character "
entry_words entry.X = codes "refused places x "
entry_words entry.Y = codes "refused places y "

-- the line of the first broken rule of a file of places
unfoldable pub places_text : PlacesFault → List ℕ
places_text places_fault.TooLong = codes "refused places long\n"
places_text places_fault.NotJson = codes "refused places json\n"
places_text places_fault.NoList = codes "refused places list\n"
places_text (places_fault.Entry index wrong) = number_line (entry_words wrong) index
places_text (places_fault.Count count) = number_line (codes "refused places ") count

-- the places by node that the files behind the plan file mean: none without such a file
-- all of them say where they are, if that is needed
abbrev pub HasPlaces : Bool → Network → List (List ℕ) → List Place → Type 0
HasPlaces needed g [] places = places ≡ []
HasPlaces needed g (bytes ∷ []) places = ArePlacesOf needed (node_count g) bytes places
HasPlaces needed g other places = ⊥

-- a map needs points
abbrev pub needs_points : ViewPlan → Bool
needs_points job = is_some job.map

-- one file stands behind the plan file, and this is the first rule that it breaks as one of places
abbrev pub BreaksPlaces : Bool → Network → List (List ℕ) → PlacesFault → Type 0
BreaksPlaces needed g more fault =
    (bytes : List ℕ) × (more ≡ bytes ∷ []) × IsFirstFault needed (node_count g) bytes fault

-- why there are no places: the first broken rule, or want of memory
abbrev pub EndsPlaces : Bool → Network → List (List ℕ) → PlacesEnded → Type 0
EndsPlaces needed g more (ended.Refused fault) = BreaksPlaces needed g more fault
EndsPlaces needed g more ended.Memory = Unit {0}

-- the bytes of the file of places, where it is given
abbrev pub listed : Option (List ℕ) → List (List ℕ)
listed None = []
listed (Some bytes) = bytes ∷ []

-- a file that is written, where it has a name
abbrev pub file_of : Option (List ℕ) → List ℕ → List Written
file_of None bytes = []
file_of (Some name) bytes = record { name = name; bytes = bytes } ∷ []

-- the schedule of all routes, or of one of them
abbrev pub part_of : Schedule → Option ℕ → Schedule
part_of whole None = whole
part_of whole (Some number) = only whole number

-- the schedule of plans whose vehicles start with this level, or of the one route that is asked for
abbrev pub shown_from : Network → ℕ → Option ℕ → Option FleetPlan → Option Schedule
shown_from g start route None = None
shown_from g start route (Some plan) =
    Some (part_of (schedule_of g start (stops_of plan.routes)) route)

-- what is shown
abbrev pub shown_of : Network → Option ℕ → HeldPlans → Option Schedule
shown_of g route held = shown_from g held.start route held.plan

-- the clock of the words, as that of the texts
abbrev pub clock_of : Option DayClock → Option Clock
clock_of None = None
clock_of (Some c) = Some (record { begin = c.begin; seconds = c.seconds; parts = c.parts })

-- a part of a fleet plan: each route is feasible from full, and no customer is served more than once
pub record IsPart (g : Network) (plans : List RoutePlan) : Type 0 where
  pub feasible : All (IsFeasible g 1 g.capacity) (stops_of plans)
  pub once : (customer : ℕ) → IsCustomer g customer → times_served g plans customer ≤ 1

-- the plan is a part of a fleet plan, of this cost, or there is none
abbrev pub IsShownPart : Network → Option FleetPlan → Option ℕ → Type 0
IsShownPart g None cost = cost ≡ None
IsShownPart g (Some plan) cost =
    IsPart g plan.routes × (cost ≡ Some (cost_of g 1 (stops_of plan.routes)))

-- vehicles that start with this level can drive so, and this is what they take together; or there
-- is no plan
abbrev pub IsDriven : Network → ℕ → Option FleetPlan → Option ℕ → Type 0
IsDriven g start None time = time ≡ None
IsDriven g start (Some plan) time =
    All (IsFeasible g 1 start) (stops_of plan.routes)
    × (time ≡ Some (times_of g start (stops_of plan.routes)))

-- the plan is what the words ask for: a fleet plan of this cost, a part of one, or a route that can
-- be driven; or there is none
abbrev pub IsShowable : PlanForm → Network → HeldPlans → Option ℕ → Type 0
IsShowable plan_form.Fleet g held cost = IsValid g held.plan cost
IsShowable plan_form.Part g held cost = IsShownPart g held.plan cost
IsShowable (plan_form.Fixed charge) g held cost = IsDriven g held.start held.plan cost

-- the rule is one of a part of a plan: of the walks, and that no customer is served twice
abbrev pub is_of_part : PlanFault → Bool
is_of_part fault = nat_lt (rule_of fault) 3

-- the rule that the walk of the route with this number breaks, or else what is found behind it
abbrev pub walk_or : ℕ → Result WalkEnd WalkFault → Option PlanFault → Option PlanFault
walk_or number (Ok end) behind = behind
walk_or number (Err reason) behind = Some (Walk number reason)

-- the first of routes, of which the first has this number, whose walk breaks a rule
abbrev pub first_walk : Network → ℕ → ℕ → List RoutePlan → Option PlanFault
first_walk g start number [] = None
first_walk g start number (p ∷ plans) =
    walk_or number (walk_along g start p.stops) (first_walk g start (number + 1) plans)

-- the same of a plan, or of none
abbrev pub first_walk_in : HeldPlans → Network → Option PlanFault
first_walk_in held g =
    option_and_then (λ plan. first_walk g held.start 0 plan.routes) held.plan

-- the first rule that the plan breaks, of those that are asked of it
abbrev pub Breaks : PlanForm → Network → HeldPlans → PlanFault → Type 0
Breaks plan_form.Fleet g held fault = BreaksFirst g held.plan fault
Breaks plan_form.Part g held fault = BreaksFirst g held.plan fault × (is_of_part fault ≡ true)
Breaks (plan_form.Fixed charge) g held fault = first_walk_in held g ≡ Some fault

-- the told time, where it isn't this one
abbrev pub untrue : Option ℕ → Option ℕ → Option ℕ
untrue None time = None
untrue (Some told) None = Some told
untrue (Some told) (Some time) = if nat_eq told time then None else Some told

-- the line of a told time that isn't that of the route
abbrev pub other_time_text : ℕ → ℕ → List ℕ
other_time_text denominator told = codes "rejected " ++ time_text denominator told

-- the files that are asked for
abbrev pub files_of : ViewPlan → List Place → Option Schedule → List Written
files_of job places shown =
    file_of job.svg (picture_text (clock_of job.clock) places shown)
    ++ file_of job.json (json_text (clock_of job.clock) places shown)
    ++ file_of job.csv (csv_text (clock_of job.clock) places shown)
    ++ file_of job.map (map_text places shown)

-- The plan is what the words ask for, or there is none, and the one route that is asked for is there.
-- Its schedule is put as tables, behind the files that are asked for, with its pictures, and with it
-- as JSON and as CSV, and with its map, with the names of places where they are given; its total
-- time is what the whole plan costs, or its routes take, and the time that is told, where one is.
pub record PutsSchedule (job : ViewPlan) (bytes plan_bytes : List ℕ) (more : List (List ℕ))
    (ws : List Written) (text : List ℕ) : Type 0 where
  pub files : HoldsPlans job bytes plan_bytes
  pub places : List Place
  pub named : HasPlaces (needs_points job) files.network more places
  pub cost : Option ℕ
  pub valid : IsShowable job.form files.network files.held cost
  pub route : HasRoute job.route files.held.plan
  pub shown : Option Schedule
  pub is : shown ≡ shown_of files.network job.route files.held
  pub time : option_map (λ s. s.totals.time) shown ≡ cost
  pub told : untrue files.held.told cost ≡ None
  pub written : ws ≡ files_of job places shown
  pub text_is : text ≡ table_text job.exact (clock_of job.clock) places shown

-- the first rule that the plan breaks, of those that are asked of it, is put, and nothing is written
pub record PutsBrokenPlan (job : ViewPlan) (bytes plan_bytes : List ℕ) (more : List (List ℕ))
    (ws : List Written) (text : List ℕ) : Type 0 where
  pub files : HoldsPlans job bytes plan_bytes
  pub places : List Place
  pub named : HasPlaces (needs_points job) files.network more places
  pub route : HasRoute job.route files.held.plan
  pub fault : PlanFault
  pub broken : Breaks job.form files.network files.held fault
  pub none : ws ≡ []
  pub text_is : text ≡ rejected_text fault

-- the route can be driven, but doesn't take the time that is told of it; that is put, and nothing is
-- written
pub record PutsOtherTime (job : ViewPlan) (bytes plan_bytes : List ℕ) (more : List (List ℕ))
    (ws : List Written) (text : List ℕ) : Type 0 where
  pub files : HoldsPlans job bytes plan_bytes
  pub places : List Place
  pub named : HasPlaces (needs_points job) files.network more places
  pub cost : Option ℕ
  pub valid : IsShowable job.form files.network files.held cost
  pub route : HasRoute job.route files.held.plan
  pub told : ℕ
  pub other : untrue files.held.told cost ≡ Some told
  pub none : ws ≡ []
  pub text_is : text ≡ other_time_text files.network.denominator told

-- the first broken rule of the instance, the limit, the level at the start or the plan's text is put,
-- and nothing is written
pub record PutsRefusal (job : ViewPlan) (bytes plan_bytes : List ℕ)
    (ws : List Written) (text : List ℕ) : Type 0 where
  pub refusal : Refusal
  pub rule : IsRule refusal
  pub refused : IsTextRefused job bytes plan_bytes refusal
  pub none : ws ≡ []
  pub text_is : text ≡ refusal_text refusal

-- no rule of these texts is broken, and the first broken rule of the file of places is put, and
-- nothing is written
pub record PutsNoPlaces (job : ViewPlan) (bytes plan_bytes : List ℕ) (more : List (List ℕ))
    (ws : List Written) (text : List ℕ) : Type 0 where
  pub files : HoldsPlans job bytes plan_bytes
  pub fault : PlacesFault
  pub broken : BreaksPlaces (needs_points job) files.network more fault
  pub none : ws ≡ []
  pub text_is : text ≡ places_text fault

-- no rule of a text is broken, and the route that is asked for isn't there; that is put, and
-- nothing is written
pub record PutsNoRoute (job : ViewPlan) (bytes plan_bytes : List ℕ) (more : List (List ℕ))
    (ws : List Written) (text : List ℕ) : Type 0 where
  pub files : HoldsPlans job bytes plan_bytes
  pub places : List Place
  pub named : HasPlaces (needs_points job) files.network more places
  pub number : ℕ
  pub asked : job.route ≡ Some number
  pub past : route_count files.held.plan ≤ number
  pub none : ws ≡ []
  pub text_is : text ≡ no_route_text number

-- the files and the text that belong to a status
abbrev pub ViewAnswers : ViewPlan → List ℕ → List ℕ → List (List ℕ) → Status → List Written →
    List ℕ → Type 0
ViewAnswers job bytes plan_bytes more status.Done ws text =
    PutsSchedule job bytes plan_bytes more ws text
ViewAnswers job bytes plan_bytes more status.Negative ws text =
    PutsBrokenPlan job bytes plan_bytes more ws text
    ⊎ PutsOtherTime job bytes plan_bytes more ws text
ViewAnswers job bytes plan_bytes more status.Refused ws text =
    PutsRefusal job bytes plan_bytes ws text ⊎ PutsNoPlaces job bytes plan_bytes more ws text
    ⊎ PutsNoRoute job bytes plan_bytes more ws text
ViewAnswers job bytes plan_bytes more other ws text = ⊥

-- the line of the rule that the plan breaks is put, and this rule is heard
abbrev pub HearsBrokenPlan : Status → List ℕ → Option Cause → Type 0
HearsBrokenPlan answered text heard = fleet.HearsBrokenPlan cause.Plan answered text heard

-- the line of a told time that isn't that of the route is put, and this time is heard
pub record HearsOtherTime
    (answered : Status) (text : List ℕ) (heard : Option Cause) : Type 0 where
  pub denominator : ℕ
  pub told : ℕ
  pub status_is : answered ≡ status.Negative
  pub text_is : text ≡ other_time_text denominator told
  pub heard_is : heard ≡ Some (cause.Time told)

-- the line of the rule that the file of places breaks is put, and this rule is heard
pub record HearsNoPlaces
    (answered : Status) (text : List ℕ) (heard : Option Cause) : Type 0 where
  pub fault : PlacesFault
  pub status_is : answered ≡ status.Refused
  pub text_is : text ≡ places_text fault
  pub heard_is : heard ≡ Some (cause.Places fault)

-- the line of a route that isn't there is put, and its number is heard
pub record HearsNoRoute
    (answered : Status) (text : List ℕ) (heard : Option Cause) : Type 0 where
  pub number : ℕ
  pub status_is : answered ≡ status.Refused
  pub text_is : text ≡ no_route_text number
  pub heard_is : heard ≡ Some (cause.Number number)

-- what is heard of an answer
abbrev pub view_heard : Status → List ℕ → Option Cause → Type 0
view_heard answered text heard =
    HearsRefusal cause.Refused answered text heard ⊎ HearsBrokenPlan answered text heard
    ⊎ HearsOtherTime answered text heard ⊎ HearsNoPlaces answered text heard
    ⊎ HearsNoRoute answered text heard
    ⊎ HearsDone answered text heard

-- two files are read, and that of places where it is given
abbrev pub view_answers : ViewPlan → List (List ℕ) → Outcome → Type 0
view_answers job (bytes ∷ plan_bytes ∷ more) o =
    ViewAnswers job bytes plan_bytes more o.status o.writes o.text
view_answers job other o = ⊥

-- the plan is read where no rule of the instance is broken, and the places where none of the plan's
-- text is either
abbrev pub view_goes_on : ViewPlan → List (List ℕ) → Type 0
view_goes_on job [] = Unit {0}
view_goes_on job (bytes ∷ []) = (g : Network) × HasStart job bytes g
view_goes_on job (bytes ∷ plan_bytes ∷ []) = HoldsPlans job bytes plan_bytes
view_goes_on job other = ⊥

-- the read of the file of places, where it is given
abbrev pub places_read : Option (List ℕ) → List Read
places_read None = []
places_read (Some name) = file_read name ∷ []

-- a file of this name will be written
abbrev pub IsOut : ViewPlan → List ℕ → Type 0
IsOut job name =
    (job.svg ≡ Some name) ⊎ (job.json ≡ Some name) ⊎ (job.csv ≡ Some name)
    ⊎ (job.map ≡ Some name)

-- it is asked before whether the files can be written
abbrev pub view_task : ViewPlan → Task Cause
view_task job = record {
  reads = file_read job.file ∷ file_read job.plan ∷ places_read job.places;
  goes_on = view_goes_on job;
  answers = view_answers job;
  heard = view_heard;
  asks = IsOut job;
  writes_first = λ ws. ⊥;
  is_open = ⊥;
  has_budget = ⊥;
}
