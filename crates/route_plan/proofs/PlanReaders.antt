-- The readers of stops, plans and files read exactly their texts.
use Rattle.std.proofs.Common.{◌≡◌, ◌≢◌, ◌∙◌, ℕ, zero, suc, ◌<◌, ◌≤◌, Bool, true, false, List, [], ◌∷◌, ◌++◌, decimal, length, Option, None, Some, codes, nat_lt, refl, sym, ap, subst, append_assoc, append-nil, arith, if◌then◌else◌}
use Rattle.std.specs.List.{All}
use Rattle.std.specs.Char.{is_ascii_digit}
use Rattle.std.proofs.lemmas.Bool.{false≢true, lt-ltb, ltb-true}
use Rattle.ev_model.specs.declared.Stop.{Stop}
use Rattle.ev_text.specs.Numerals.{BeginsWithoutDigit}
use Rattle.ev_text.specs.Readers.{Reader, behind_word, choice_at, answer, optional_at, list_at, positive_at, so_many, then_reads}
use Rattle.ev_text.specs.Scans.{whole_at}
use Rattle.ev_text.specs.Texts.{joined_texts, optional_text, parted_texts}
use Rattle.ev_text.proofs.ChoiceLaws.{BeforeChoice, BeforeOptional, BeginsOtherwise, other_word, reader-choice, reader-optional}
use Rattle.ev_text.proofs.ListLaws.{AreParted, reader-many, reader-parted}
use Rattle.ev_text.proofs.ReaderLaws.{IsReader, reader-as, reader-behind, reader-answer, reader-number, reader-positive, reader-then}
use Rattle.ev_text.proofs.Readings.{first_digit}
use Rattle.route_plan.specs.Limits.{greatest_number, most_routes}
use Rattle.route_plan.specs.PlanReading.{amount_at, amount_behind, file_at, plan_at, plans_behind, route_at, routes_at, stop_at}
use Rattle.route_plan.specs.PlanTexts.{FitsFile, FitsText, IsSmallStop, amount_text, fleet_plan_text, plan_text, stop_text}
use Rattle.route_plan.specs.declared.plan.FleetPlan.{FleetPlan}
use Rattle.route_plan.specs.declared.plan.RoutePlan.{RoutePlan}

abbrev IsSmall : ℕ → Type 0
IsSmall n = n ≤ greatest_number

-- what may follow an amount, whatever it is: neither a digit nor a `+`
abbrev BeforeAmount : ℕ → List ℕ → Type 0
BeforeAmount n rest = BeginsWithoutDigit rest × BeginsOtherwise 43 rest

abbrev digits_behind : Bool → ℕ → List ℕ
digits_behind true n = decimal n
digits_behind false n = []

abbrev IsAmount : Bool → ℕ → Type 0
IsAmount plus n = IsSmall n × (nat_lt 0 n ≡ plus)

reader-amount_behind : (plus : Bool) → Unit {0} → IsReader (amount_behind plus) (digits_behind plus) (IsAmount plus) BeforeAmount
reader-amount_behind true any =
    reader-as (positive_at greatest_number) (λ n. decimal n) (digits_behind true) (λ n. (0 < n) × (n ≤ greatest_number)) (IsAmount true) (λ n rest. BeginsWithoutDigit rest) BeforeAmount
    (record { texts = λ n is. refl; to = λ n is. (is.1, lt-ltb 0 n is.0); from = λ n is. (ltb-true 0 n is.1, is.0); before = λ n rest is before. before.0 })
    (reader-positive greatest_number (omega arith) (omega arith))
reader-amount_behind false any =
    reader-as (answer 0) (λ n. []) (digits_behind false) (λ n. n ≡ 0) (IsAmount false) (λ n rest. Unit {0}) BeforeAmount
    (record { texts = λ n is. refl; to = λ n is. subst (IsAmount false) (sym is) (omega arith, refl); from = λ n is. nothing n is.1; before = λ n rest is before. tt })
    (reader-answer 0)
  where
    nothing : (n : ℕ) → nat_lt 0 n ≡ false → n ≡ 0
    nothing zero is = refl
    nothing (suc n) is = absurd (false≢true (sym is ∙ lt-ltb 0 (suc n) (omega arith)))

reader-amount : IsReader amount_at amount_text IsSmall BeforeAmount
reader-amount =
    reader-as amount_at (λ n. optional_text (codes "+") (nat_lt 0 n) ++ digits_behind (nat_lt 0 n) n) amount_text IsSmall IsSmall BeforeAmount BeforeAmount
    (record { texts = λ n small. both n (nat_lt 0 n); to = λ n is. is; from = λ n is. is; before = λ n rest is before. before })
    (reader-then (optional_at (codes "+")) amount_behind (optional_text (codes "+")) digits_behind (λ plus. Unit {0}) IsSmall (BeforeOptional 43) BeforeAmount (λ n. nat_lt 0 n)
    (reader-optional 43) reader-amount_behind (λ n small. tt) (λ n rest small before. follows n rest (nat_lt 0 n) before))
  where
    both : (n : ℕ) (plus : Bool) → optional_text (codes "+") plus ++ digits_behind plus n ≡ (if plus then codes "+" ++ decimal n else [])
    both n true = refl
    both n false = refl

    follows : (n : ℕ) (rest : List ℕ) (plus : Bool) → BeforeAmount n rest → BeforeOptional 43 plus (digits_behind plus n ++ rest)
    follows n rest true before = tt
    follows n rest false before = before.1

-- what may follow a stop
abbrev pub BeforeStop : Stop → List ℕ → Type 0
BeforeStop s rest = BeginsWithoutDigit rest × BeginsOtherwise 43 rest

abbrev HasMark : Bool → Stop → Type 0
HasMark via s = IsSmallStop s × (s.via ≡ via)

abbrev HasNode : Bool → ℕ → Stop → Type 0
HasNode via node s = HasMark via s × (s.node ≡ node)

abbrev HasAmount : Bool → ℕ → ℕ → Stop → Type 0
HasAmount via node added s = HasNode via node s × (s.added ≡ added)

made : Bool → ℕ → ℕ → Stop
made via node added = record { node = node; added = added; via = via }

reader-made : (via : Bool) (node added : ℕ) → IsSmall node → IsSmall added → IsReader (answer (made via node added)) (λ s. []) (HasAmount via node added) BeforeStop
unfolding made
reader-made via node added small_node small_added =
    reader-as (answer (made via node added)) (λ s. []) (λ s. []) (λ s. s ≡ made via node added) (HasAmount via node added) (λ s rest. Unit {0}) BeforeStop
    (record {
      texts = λ s is. refl;
      to = λ s is. subst (HasAmount via node added) (sym is) (((record { node = small_node; added = small_added }, refl), refl), refl);
      from = λ s is. λ i. record { node = is.0.1 i; added = is.1 i; via = is.0.0.1 i };
      before = λ s rest is before. tt;
    })
    (reader-answer (made via node added))

reader-behind_node : (via : Bool) (node : ℕ) → IsSmall node → IsReader (then_reads amount_at (λ added. answer (record { node = node; added = added; via = via }))) (λ s. amount_text s.added) (HasNode via node) BeforeStop
unfolding made
reader-behind_node via node small =
    reader-as (then_reads amount_at (λ added. answer (made via node added))) (λ s. amount_text s.added ++ []) (λ s. amount_text s.added) (HasNode via node) (HasNode via node) BeforeStop BeforeStop
    (record { texts = λ s is. append-nil (amount_text s.added); to = λ s is. is; from = λ s is. is; before = λ s rest is before. before })
    (reader-then amount_at (λ added. answer (made via node added)) amount_text (λ added s. []) IsSmall (HasNode via node) BeforeAmount BeforeStop (λ s. s.added)
    reader-amount (λ added little. reader-made via node added small little) (λ s is. is.0.0.added) (λ s rest is before. before))

no_digit_behind : (n : ℕ) (rest : List ℕ) → BeginsWithoutDigit rest → BeginsWithoutDigit (amount_text n ++ rest)
no_digit_behind n rest before = by (nat_lt 0 n)
  where
    by : (plus : Bool) → BeginsWithoutDigit ((if plus then codes "+" ++ decimal n else []) ++ rest)
    by true = refl
    by false = before

abbrev behind_mark : Bool → Reader Stop
behind_mark via = then_reads (whole_at greatest_number) (λ node. then_reads amount_at (λ added. answer (record { node = node; added = added; via = via })))

reader-behind_mark : (via : Bool) → Unit {0} → IsReader (behind_mark via) (λ s. decimal s.node ++ amount_text s.added) (HasMark via) BeforeStop
reader-behind_mark via any =
    reader-then (whole_at greatest_number) (λ node. then_reads amount_at (λ added. answer (record { node = node; added = added; via = via }))) (λ n. decimal n) (λ node s. amount_text s.added)
    IsSmall (HasMark via) (λ n rest. BeginsWithoutDigit rest) BeforeStop (λ s. s.node) (reader-number greatest_number (omega arith)) (reader-behind_node via)
    (λ s is. is.0.node) (λ s rest is before. no_digit_behind s.added rest before.0)

pub reader-stop : IsReader stop_at stop_text IsSmallStop BeforeStop
reader-stop =
    reader-as stop_at (λ s. optional_text (codes "v") s.via ++ (decimal s.node ++ amount_text s.added)) stop_text IsSmallStop IsSmallStop BeforeStop BeforeStop
    (record { texts = λ s small. sym (append_assoc (optional_text (codes "v") s.via) (decimal s.node) (amount_text s.added)); to = λ s is. is; from = λ s is. is; before = λ s rest is before. before })
    (reader-then (optional_at (codes "v")) behind_mark (optional_text (codes "v")) (λ via s. decimal s.node ++ amount_text s.added) (λ via. Unit {0}) IsSmallStop (BeforeOptional 118) BeforeStop (λ s. s.via)
    (reader-optional 118) reader-behind_mark (λ s small. tt) (λ s rest small before. follows s rest s.via small))
  where
    other : (n : ℕ) (rest : List ℕ) → IsSmall n → BeginsOtherwise 118 (decimal n ++ rest)
    other n rest small =
        let digit = first_digit n (omega (arith, small)) in
        subst (λ (ds : List ℕ). BeginsOtherwise 118 (ds ++ rest)) (sym digit.2) (λ same. let test : is_ascii_digit 118 ≡ true = sym (ap is_ascii_digit same) ∙ digit.3 in cc)

    follows : (s : Stop) (rest : List ℕ) (via : Bool) → IsSmallStop s → BeforeOptional 118 via ((decimal s.node ++ amount_text s.added) ++ rest)
    follows s rest true small = tt
    follows s rest false small = subst (BeginsOtherwise 118) (sym (append_assoc (decimal s.node) (amount_text s.added) rest)) (other s.node (amount_text s.added ++ rest) small.node)

-- the line of a plan
abbrev pub AnyBehind : {A : Type 0} → A → List ℕ → Type 0
AnyBehind value rest = Unit {0}

pub reader-plan : IsReader plan_at plan_text FitsText AnyBehind
reader-plan =
    reader-as plan_at (λ stops. codes "route " ++ (parted_texts (codes " ") stop_text stops ++ (10 ∷ []))) plan_text Parted FitsText AnyBehind AnyBehind
    (record {
      texts = λ stops is. sym (append_assoc (codes "route ") (parted_texts (codes " ") stop_text stops) (10 ∷ []));
      to = λ stops is. record { some = is.0; small = is.1 };
      from = λ stops is. (is.some, is.small);
      before = λ stops rest is before. tt;
    })
    (reader-behind 114 (codes "oute ") (list_at (codes " ") (10 ∷ []) stop_at) (λ stops. parted_texts (codes " ") stop_text stops ++ (10 ∷ [])) Parted AnyBehind
    (reader-parted 32 10 [] stop_at stop_text IsSmallStop BeforeStop reader-stop ten_differs before_space before_feed))
  where
    ten_differs : ◌≢◌ {A = ℕ} 10 32
    ten_differs same = omega arith

    before_space : (s : Stop) (rest : List ℕ) → IsSmallStop s → BeforeStop s (32 ∷ rest)
    before_space s rest small = (refl, λ same. absurd (omega arith))

    before_feed : (s : Stop) (rest : List ℕ) → IsSmallStop s → BeforeStop s (10 ∷ rest)
    before_feed s rest small = (refl, λ same. absurd (omega arith))

    Parted : List Stop → Type 0
    Parted = AreParted 32 10 [] stop_at stop_text IsSmallStop BeforeStop reader-stop ten_differs before_space before_feed

-- the same as a plan of a vehicle
abbrev pub route_text : RoutePlan → List ℕ
route_text p = plan_text p.stops

abbrev pub RouteFits : RoutePlan → Type 0
RouteFits p = FitsText p.stops

pub reader-route : IsReader route_at route_text RouteFits AnyBehind
reader-route =
    reader-as route_at (λ p. plan_text p.stops ++ []) route_text RouteFits RouteFits AnyBehind AnyBehind
    (record { texts = λ p is. append-nil (plan_text p.stops); to = λ p is. is; from = λ p is. is; before = λ p rest is before. tt })
    (reader-then plan_at (λ stops. answer (record { stops = stops })) plan_text (λ stops p. []) FitsText RouteFits AnyBehind AnyBehind (λ p. p.stops) reader-plan
    (λ stops fits. reader-as (answer (record { stops = stops })) (λ p. []) (λ p. []) (λ p. p ≡ record { stops = stops }) (λ p. RouteFits p × (p.stops ≡ stops)) AnyBehind AnyBehind
    (record {
      texts = λ p is. refl;
      to = λ p is. subst (λ (q : RoutePlan). RouteFits q × (q.stops ≡ stops)) (sym is) (fits, refl);
      from = λ p is. λ i. record { stops = is.1 i };
      before = λ p rest is before. tt;
    })
    (reader-answer (record { stops = stops })))
    (λ p fits. fits) (λ p rest fits before. tt))

-- the lines of so many plans
abbrev AreRoutes : ℕ → List RoutePlan → Type 0
AreRoutes count routes = All RouteFits routes × (length routes ≡ count)

reader-routes : (count : ℕ) → IsReader (so_many count route_at) (joined_texts route_text) (AreRoutes count) AnyBehind
reader-routes count = reader-many route_at route_text RouteFits AnyBehind reader-route (λ p rest fits. tt) count

-- a file, behind its first line
abbrev listed_routes : Option FleetPlan → List RoutePlan
listed_routes None = []
listed_routes (Some plan) = plan.routes

abbrev says_none : Option FleetPlan → Bool
says_none None = true
says_none (Some plan) = false

abbrev second_text : Bool → Option FleetPlan → List ℕ
second_text true plan = []
second_text false plan = codes "routes " ++ (decimal (length (listed_routes plan)) ++ (10 ∷ joined_texts route_text (listed_routes plan)))

abbrev IsListed : Option FleetPlan → Type 0
IsListed plan = FitsFile plan × (says_none plan ≡ false)

abbrev HasCount : ℕ → Option FleetPlan → Type 0
HasCount count plan = IsListed plan × (length (listed_routes plan) ≡ count)

abbrev lines_behind : ℕ → Reader (Option FleetPlan)
lines_behind count = then_reads (so_many count route_at) (λ routes. answer (Some (record { routes = routes })))

reader-lines : (count : ℕ) → count ≤ most_routes → IsReader (lines_behind count) (λ plan. joined_texts route_text (listed_routes plan)) (HasCount count) AnyBehind
reader-lines count few =
    reader-as (lines_behind count) (λ plan. joined_texts route_text (listed_routes plan) ++ []) (λ plan. joined_texts route_text (listed_routes plan)) (HasCount count) (HasCount count) AnyBehind AnyBehind
    (record { texts = λ plan is. append-nil (joined_texts route_text (listed_routes plan)); to = λ plan is. is; from = λ plan is. is; before = λ plan rest is before. tt })
    (reader-then (so_many count route_at) (λ routes. answer (Some (record { routes = routes }))) (joined_texts route_text) (λ routes plan. []) (AreRoutes count) (HasCount count) AnyBehind AnyBehind listed_routes
    (reader-routes count)
    (λ routes are. reader-as (answer (Some (record { routes = routes }))) (λ plan. []) (λ plan. []) (λ plan. plan ≡ Some (record { routes = routes })) (λ plan. HasCount count plan × (listed_routes plan ≡ routes)) AnyBehind AnyBehind
    (record {
      texts = λ plan is. refl;
      to = λ plan is. subst (λ (p : Option FleetPlan). HasCount count p × (listed_routes p ≡ routes)) (sym is) (((few_and routes are, refl), are.1), refl);
      from = λ plan is. from routes plan is.0.0.1 is.1;
      before = λ plan rest is before. tt;
    })
    (reader-answer (Some (record { routes = routes }))))
    parts (λ plan rest is before. tt))
  where
    few_and : (routes : List RoutePlan) → AreRoutes count routes → (length routes ≤ most_routes) × All RouteFits routes
    few_and routes are = (omega (arith, few, are.1), are.0)

    from : (routes : List RoutePlan) (plan : Option FleetPlan) → says_none plan ≡ false → listed_routes plan ≡ routes → plan ≡ Some (record { routes = routes })
    from routes None none is = absurd (cc)
    from routes (Some plan) some is = λ i. Some (record { routes = is i })

    parts : (plan : Option FleetPlan) → HasCount count plan → AreRoutes count (listed_routes plan)
    parts None is = absurd (let none = is.0.1 in cc)
    parts (Some plan) is = (is.0.0.1, is.1)

abbrev behind_count : ℕ → Reader (Option FleetPlan)
behind_count count = behind_word (10 ∷ []) (lines_behind count)

reader-listed : IsReader routes_at (λ plan. decimal (length (listed_routes plan)) ++ (10 ∷ joined_texts route_text (listed_routes plan))) IsListed AnyBehind
reader-listed =
    reader-then (whole_at most_routes) behind_count (λ n. decimal n) (λ count plan. 10 ∷ joined_texts route_text (listed_routes plan)) (λ n. n ≤ most_routes) IsListed
    (λ n rest. BeginsWithoutDigit rest) AnyBehind (λ plan. length (listed_routes plan)) (reader-number most_routes (omega arith))
    (λ count few. reader-behind 10 [] (lines_behind count) (λ plan. joined_texts route_text (listed_routes plan)) (HasCount count) AnyBehind (reader-lines count few))
    few (λ plan rest is before. refl)
  where
    few : (plan : Option FleetPlan) → IsListed plan → length (listed_routes plan) ≤ most_routes
    few None is = omega arith
    few (Some plan) is = is.0.0

reader-second : (none : Bool) → Unit {0} → IsReader (plans_behind none) (second_text none) (λ plan. FitsFile plan × (says_none plan ≡ none)) AnyBehind
reader-second true any =
    reader-as (answer None) (λ plan. []) (second_text true) (λ plan. plan ≡ None) (λ plan. FitsFile plan × (says_none plan ≡ true)) AnyBehind AnyBehind
    (record {
      texts = λ plan is. refl;
      to = λ plan is. subst (λ (p : Option FleetPlan). FitsFile p × (says_none p ≡ true)) (sym is) (tt, refl);
      from = λ plan is. none plan is.1;
      before = λ plan rest is before. tt;
    })
    (reader-answer None)
  where
    none : (plan : Option FleetPlan) → says_none plan ≡ true → plan ≡ None
    none None is = refl
    none (Some plan) is = absurd (cc)
reader-second false any = reader-behind 114 (codes "outes ") routes_at (λ plan. decimal (length (listed_routes plan)) ++ (10 ∷ joined_texts route_text (listed_routes plan))) IsListed AnyBehind reader-listed

abbrev no_plan_line : List ℕ
no_plan_line = codes "none" ++ 10 ∷ []

abbrev second_lines : Reader (Option FleetPlan)
second_lines = then_reads (choice_at (codes "none" ++ 10 ∷ [])) plans_behind

reader-lines_of : IsReader second_lines (λ plan. optional_text no_plan_line (says_none plan) ++ second_text (says_none plan) plan) FitsFile AnyBehind
reader-lines_of =
    reader-then (choice_at no_plan_line) plans_behind (optional_text no_plan_line) second_text (λ none. Unit {0}) FitsFile (BeforeChoice no_plan_line) AnyBehind says_none
    (reader-choice 110 (codes "one" ++ 10 ∷ [])) reader-second (λ plan fits. tt) (λ plan rest fits before. differs (says_none plan) plan rest)
  where
    differs : (none : Bool) (plan : Option FleetPlan) (rest : List ℕ) → BeforeChoice no_plan_line none (second_text none plan ++ rest)
    differs true plan rest = tt
    differs false plan rest = other_word 110 114 (codes "one" ++ 10 ∷ []) ((codes "outes " ++ (decimal (length (listed_routes plan)) ++ (10 ∷ joined_texts route_text (listed_routes plan)))) ++ rest) (λ same. omega arith)

pub reader-file : IsReader file_at fleet_plan_text FitsFile AnyBehind
reader-file =
    reader-as file_at (λ plan. (codes "evroute plan 1" ++ 10 ∷ []) ++ (optional_text no_plan_line (says_none plan) ++ second_text (says_none plan) plan)) fleet_plan_text FitsFile FitsFile AnyBehind AnyBehind
    (record { texts = texts; to = λ plan is. is; from = λ plan is. is; before = λ plan rest is before. tt })
    (reader-behind 101 (codes "vroute plan 1" ++ 10 ∷ []) second_lines (λ plan. optional_text no_plan_line (says_none plan) ++ second_text (says_none plan) plan) FitsFile AnyBehind reader-lines_of)
  where
    texts : (plan : Option FleetPlan) → FitsFile plan → (codes "evroute plan 1" ++ 10 ∷ []) ++ (optional_text no_plan_line (says_none plan) ++ second_text (says_none plan) plan) ≡ fleet_plan_text plan
    texts None fits = refl
    texts (Some plan) fits = refl
