-- Reading the stops of a line and the lines of a file, one after another, and the whole of a text.
use Rattle.std.proofs.Common.{◌≡◌, ◌≢◌, ◌∙◌, ℕ, suc, ◌<◌, ◌≤◌, Bool, true, false, List, [], ◌∷◌, ◌++◌, length, Result, Ok, Err, codes, refl, sym, ap, if◌then◌else◌}
use Rattle.std.proofs.lemmas.Bool.{le-ltb}
use Rattle.ev_model.specs.declared.Stop.{Stop}
use Rattle.ev_text.specs.Readers.{Reader, optional_at, so_many, whole_text, whole_with}
use Rattle.ev_text.specs.Scans.{and_then, rest_of, word_at}
use Rattle.ev_text.specs.declared.TextFault.{TextFault}
use Rattle.ev_text.specs.declared.TextFault.TheVariants.{Word}
use Rattle.ev_text.proofs.Loops.{IsReadTo, IsReadUpTo, each-begins, each-breaks, each-breaks_off, each-ends, each-goes_on, each-shorter, many-begins, many-breaks, many-ends, many-goes_on}
use Rattle.ev_text.proofs.WholeLaws.{whole_text-end, whole_text-more}
use Rattle.route_plan.specs.Limits.{most_bytes}
use Rattle.route_plan.specs.PlanReading.{file_at, or_bad, plan_at, route_at, stop_at, stops_at, unless_too_long}
use Rattle.route_plan.specs.PlanTexts.{IsSmallStop, stop_text}
use Rattle.route_plan.specs.declared.plan.RoutePlan.{RoutePlan}
use Rattle.route_plan.specs.declared.text.plan_text.PlanText.{PlanText}
use Rattle.route_plan.specs.declared.text.plan_text.PlanText.TheVariants.{Bad, TooLong}
use Rattle.route_plan.proofs.PlanReaders.{BeforeStop, reader-stop}

-- the fault of a text is one of its places
pub bad_since : {A : Type 0} (r : Result A TextFault) (fault : PlanText) → or_bad r ≡ Err fault → (bad : TextFault) × (r ≡ Err bad) × (Bad bad ≡ fault)
bad_since (Ok value) fault is = absurd (cc)
bad_since (Err bad) fault is = (bad, refl, cc)

-- the stops of a line, one after another

abbrev pub AreStopsTo : List ℕ × ℕ → List Stop → List ℕ × ℕ → Type 0
AreStopsTo start stops s = IsReadTo 32 10 [] stop_at stop_text IsSmallStop BeforeStop reader-stop (stops_at start) stops s

pub begins_stops : (start u : List ℕ × ℕ) (stop : Stop) (stops : List Stop) → stop_at start ≡ Ok (stop, u) → stops ≡ stop ∷ [] → AreStopsTo start stops u
begins_stops start u stop stops found is = each-begins 32 10 [] stop_at stop_text IsSmallStop BeforeStop reader-stop (stops_at start) stops u (rw (found, is) refl)

pub shorter_line : (s t u : List ℕ × ℕ) (stop : Stop) → optional_at (codes " ") s ≡ Ok (true, t) → stop_at t ≡ Ok (stop, u) → length (rest_of u) < length (rest_of s)
shorter_line s t u stop space found = each-shorter 32 10 [] stop_at stop_text IsSmallStop BeforeStop reader-stop s t u stop space found

pub next_stop : (start s t u : List ℕ × ℕ) (stops more : List Stop) (stop : Stop) → AreStopsTo start stops s → optional_at (codes " ") s ≡ Ok (true, t) → stop_at t ≡ Ok (stop, u) → more ≡ stops ++ stop ∷ [] → AreStopsTo start more u
next_stop start s t u stops more stop so_far space found is = each-goes_on 32 10 [] stop_at stop_text IsSmallStop BeforeStop reader-stop (stops_at start) s t u stops more stop so_far space found is

pub no_stop : (start s t : List ℕ × ℕ) (stops : List Stop) (fault : TextFault) → AreStopsTo start stops s → optional_at (codes " ") s ≡ Ok (true, t) → stop_at t ≡ Err fault → stops_at start ≡ Err fault
no_stop start s t stops fault so_far space found = each-breaks 32 10 [] stop_at stop_text IsSmallStop BeforeStop reader-stop (stops_at start) s t stops fault so_far space found

pub ends_line : (start s t u : List ℕ × ℕ) (stops : List Stop) → AreStopsTo start stops s → optional_at (codes " ") s ≡ Ok (false, t) → word_at (10 ∷ []) t ≡ Ok u → stops_at start ≡ Ok (stops, u)
ends_line start s t u stops so_far none found = each-ends 32 10 [] stop_at stop_text IsSmallStop BeforeStop reader-stop (stops_at start) s t u stops so_far none found

pub no_line_end : (start s t : List ℕ × ℕ) (stops : List Stop) (fault : TextFault) → AreStopsTo start stops s → optional_at (codes " ") s ≡ Ok (false, t) → word_at (10 ∷ []) t ≡ Err fault → stops_at start ≡ Err fault
no_line_end start s t stops fault so_far none found = each-breaks_off 32 10 [] stop_at stop_text IsSmallStop BeforeStop reader-stop (stops_at start) s t stops fault so_far none found

-- the lines of a file, one after another

abbrev pub AreRoutesTo : List ℕ × ℕ → ℕ → List RoutePlan → ℕ → List ℕ × ℕ → Type 0
AreRoutesTo start count routes left s = IsReadUpTo route_at (so_many count route_at start) routes left s

pub begins_routes : (start : List ℕ × ℕ) (count left : ℕ) (routes : List RoutePlan) → left ≡ count → routes ≡ [] → AreRoutesTo start count routes left start
begins_routes start count left routes same none = many-begins route_at count left routes start same none

pub next_route : (start s t : List ℕ × ℕ) (count left fewer : ℕ) (routes more : List RoutePlan) (route : RoutePlan) → left ≡ suc fewer
    → AreRoutesTo start count routes left s → plan_at s ≡ Ok (route.stops, t) → more ≡ routes ++ route ∷ [] → AreRoutesTo start count more fewer t
next_route start s t count left fewer routes more route one so_far found is =
    many-goes_on route_at (so_many count route_at start) s t left fewer routes more route one so_far (rw found refl) is

no_plan : (s : List ℕ × ℕ) (fault : TextFault) → plan_at s ≡ Err fault → route_at s ≡ Err fault
no_plan s fault found = rw found refl

pub no_route : (start s : List ℕ × ℕ) (count left fewer : ℕ) (routes : List RoutePlan) (fault : PlanText) → left ≡ suc fewer → AreRoutesTo start count routes left s → or_bad (plan_at s) ≡ Err fault → or_bad (so_many count route_at start) ≡ Err fault
no_route start s count left fewer routes fault one so_far is =
    let bad = bad_since (plan_at s) fault is in
    ap or_bad (many-breaks route_at (so_many count route_at start) s left fewer routes bad.0 one so_far (no_plan s bad.0 bad.1)) ∙ ap (λ f. Err f) bad.2

pub ends_routes : (start s : List ℕ × ℕ) (count left : ℕ) (routes : List RoutePlan) → left ≡ 0 → AreRoutesTo start count routes left s → so_many count route_at start ≡ Ok (routes, s)
ends_routes start s count left routes none so_far = many-ends route_at (so_many count route_at start) s left routes none so_far

-- the whole of a text

not_too_long : {A : Type 0} (bytes : List ℕ) (found : Result A TextFault) → length bytes ≤ most_bytes → unless_too_long bytes found ≡ or_bad found
not_too_long bytes found le = ap (λ (b : Bool). if b then Err (TooLong (length bytes)) else or_bad found) (le-ltb most_bytes (length bytes) le)

pub whole_is_read : {A : Type 0} (read : Reader A) (bytes : List ℕ) (s t : List ℕ × ℕ) (value : A) → length bytes ≤ most_bytes → s ≡ (bytes, 0) → read s ≡ Ok (value, t) → rest_of t ≡ [] → unless_too_long bytes (whole_with read bytes) ≡ Ok value
whole_is_read read bytes s t value le start found none =
    not_too_long bytes (whole_with read bytes) le
    ∙ ap (λ r. or_bad (and_then r whole_text)) (ap read (sym start) ∙ found)
    ∙ ap or_bad (whole_text-end value t none)

pub fault_within : {A : Type 0} (read : Reader A) (bytes : List ℕ) (s : List ℕ × ℕ) (fault : PlanText) → length bytes ≤ most_bytes → s ≡ (bytes, 0) → or_bad (read s) ≡ Err fault → unless_too_long bytes (whole_with read bytes) ≡ Err fault
fault_within read bytes s fault le start is =
    let bad = bad_since (read s) fault is in
    not_too_long bytes (whole_with read bytes) le
    ∙ ap (λ r. or_bad (and_then r whole_text)) (ap read (sym start) ∙ bad.1)
    ∙ ap (λ f. Err f) bad.2

pub fault_behind : {A : Type 0} (read : Reader A) (bytes : List ℕ) (s t : List ℕ × ℕ) (value : A) (fault : TextFault) → length bytes ≤ most_bytes → s ≡ (bytes, 0) → read s ≡ Ok (value, t)
    → (rest_of t ≢ []) × (fault ≡ Word t.1) → unless_too_long bytes (whole_with read bytes) ≡ Err (Bad fault)
fault_behind read bytes s t value fault le start found (some, is) =
    not_too_long bytes (whole_with read bytes) le
    ∙ ap (λ r. or_bad (and_then r whole_text)) (ap read (sym start) ∙ found)
    ∙ ap or_bad (whole_text-more value t some)
    ∙ ap (λ f. Err (Bad f)) (sym is)

-- the word of the first line is missing
pub no_first_line : (s : List ℕ × ℕ) (fault : TextFault) → word_at (codes "evroute plan 1" ++ 10 ∷ []) s ≡ Err fault → file_at s ≡ Err fault
no_first_line s fault found = rw found refl
