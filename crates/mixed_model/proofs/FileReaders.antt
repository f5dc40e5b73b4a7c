-- The reader of a plan reads exactly its text.
use Rattle.std.proofs.Common.{◌≡◌, ℕ, ◌≤◌, Bool, true, false, List, [], ◌∷◌, ◌++◌, Option, None, Some, codes, decimal, length, refl, sym, subst, append-nil, arith}
use Rattle.std.specs.List.{All}
use Rattle.ev_text.specs.Numerals.{BeginsWithoutDigit}
use Rattle.ev_text.specs.Readers.{Reader, answer, behind_word, choice_at, so_many, then_reads}
use Rattle.ev_text.specs.Scans.{whole_at}
use Rattle.ev_text.specs.Texts.{joined_texts, optional_text}
use Rattle.ev_text.proofs.ChoiceLaws.{BeforeChoice, other_word, reader-choice}
use Rattle.ev_text.proofs.ListLaws.{reader-many}
use Rattle.ev_text.proofs.ReaderLaws.{IsReader, reader-answer, reader-as, reader-behind, reader-number, reader-then}
use Rattle.route_plan.specs.Limits.{most_routes}
use Rattle.route_plan.proofs.PlanReaders.{AnyBehind}
use Rattle.mixed_model.specs.Kinds.{most_kinds}
use Rattle.mixed_model.specs.declared.proof.MixedRoute.{MixedRoute}
use Rattle.mixed_model.specs.MixedReading.{mixed_behind, mixed_file_at, mixed_route_at, mixed_routes_at}
use Rattle.mixed_model.specs.MixedTexts.{FitsMixedPlan, FitsRoute, mixed_plan_text, mixed_route_text}
use Rattle.mixed_model.proofs.LineReaders.{reader-route}

abbrev lines_text : List MixedRoute → List ℕ
lines_text routes = joined_texts mixed_route_text routes

abbrev routes_text : List MixedRoute → List ℕ
routes_text routes = decimal (length routes) ++ (10 ∷ lines_text routes)

-- the routes of a plan, and whether there is none
abbrev listed : Option (List MixedRoute) → List MixedRoute
listed None = []
listed (Some routes) = routes

abbrev says_none : Option (List MixedRoute) → Bool
says_none None = true
says_none (Some routes) = false

abbrev second_text : Bool → Option (List MixedRoute) → List ℕ
second_text true plan = []
second_text false plan = codes "routes " ++ routes_text (listed plan)

abbrev no_plan_line : List ℕ
no_plan_line = codes "none" ++ 10 ∷ []

module _ (kinds : ℕ) (some : 1 ≤ kinds) (few : kinds ≤ most_kinds) where
  abbrev FitRoutes : List MixedRoute → Type 0
  FitRoutes routes = (length routes ≤ most_routes) × All (FitsRoute kinds) routes

  reader-lines : (count : ℕ) → count ≤ most_routes → IsReader (so_many count (mixed_route_at kinds)) lines_text (λ routes. FitRoutes routes × (length routes ≡ count)) AnyBehind
  reader-lines count within =
      reader-as (so_many count (mixed_route_at kinds)) lines_text lines_text (λ routes. All (FitsRoute kinds) routes × (length routes ≡ count)) (λ routes. FitRoutes routes × (length routes ≡ count)) AnyBehind AnyBehind
      (record {
        texts = λ routes is. refl;
        to = λ routes is. ((omega (arith, is.1, within), is.0), is.1);
        from = λ routes is. (is.0.1, is.1);
        before = λ routes rest is before. tt;
      })
      (reader-many (mixed_route_at kinds) mixed_route_text (FitsRoute kinds) AnyBehind (reader-route kinds some few) (λ r rest fits. tt) count)

  reader-routes : IsReader (mixed_routes_at kinds) routes_text FitRoutes AnyBehind
  reader-routes =
      reader-then (whole_at most_routes) (λ count. behind_word (10 ∷ []) (so_many count (mixed_route_at kinds))) (λ n. decimal n) (λ count routes. 10 ∷ lines_text routes)
      (λ n. n ≤ most_routes) FitRoutes (λ n rest. BeginsWithoutDigit rest) AnyBehind (λ routes. length routes) (reader-number most_routes (omega arith))
      (λ count within. reader-behind 10 [] (so_many count (mixed_route_at kinds)) lines_text (λ routes. FitRoutes routes × (length routes ≡ count)) AnyBehind (reader-lines count within))
      (λ routes is. is.0) (λ routes rest is before. refl)

  abbrev IsListed : Option (List MixedRoute) → Type 0
  IsListed plan = FitsMixedPlan kinds plan × (says_none plan ≡ false)

  abbrev listed_at : Reader (Option (List MixedRoute))
  listed_at = then_reads (mixed_routes_at kinds) (λ routes. answer (Some routes))

  is_listed : (routes : List MixedRoute) (plan : Option (List MixedRoute)) → says_none plan ≡ false → listed plan ≡ routes → plan ≡ Some routes
  is_listed routes None none is = absurd (cc)
  is_listed routes (Some own) some is = λ i. Some (is i)

  routes_fit : (plan : Option (List MixedRoute)) → IsListed plan → FitRoutes (listed plan)
  routes_fit None is = absurd (let none = is.1 in cc)
  routes_fit (Some routes) is = is.0

  reader-some : (routes : List MixedRoute) → FitRoutes routes → IsReader (answer (Some routes)) (λ plan. []) (λ plan. IsListed plan × (listed plan ≡ routes)) AnyBehind
  reader-some routes fit =
      reader-as (answer (Some routes)) (λ plan. []) (λ plan. []) (λ plan. plan ≡ Some routes) (λ plan. IsListed plan × (listed plan ≡ routes)) AnyBehind AnyBehind
      (record {
        texts = λ plan is. refl;
        to = λ plan is. subst (λ (p : Option (List MixedRoute)). IsListed p × (listed p ≡ routes)) (sym is) ((fit, refl), refl);
        from = λ plan is. is_listed routes plan is.0.1 is.1;
        before = λ plan rest is before. tt;
      })
      (reader-answer (Some routes))

  reader-listed : IsReader listed_at (λ plan. routes_text (listed plan)) IsListed AnyBehind
  reader-listed =
      reader-as listed_at (λ plan. routes_text (listed plan) ++ []) (λ plan. routes_text (listed plan)) IsListed IsListed AnyBehind AnyBehind
      (record { texts = λ plan is. append-nil (routes_text (listed plan)); to = λ plan is. is; from = λ plan is. is; before = λ plan rest is before. tt })
      (reader-then (mixed_routes_at kinds) (λ routes. answer (Some routes)) routes_text (λ routes plan. []) FitRoutes IsListed AnyBehind AnyBehind listed reader-routes reader-some routes_fit (λ plan rest is before. tt))

  is_none_at : (plan : Option (List MixedRoute)) → says_none plan ≡ true → plan ≡ None
  is_none_at None is = refl
  is_none_at (Some routes) is = absurd (cc)

  reader-second : (none : Bool) → Unit {0} → IsReader (mixed_behind kinds none) (second_text none) (λ plan. FitsMixedPlan kinds plan × (says_none plan ≡ none)) AnyBehind
  reader-second true any =
      reader-as (answer None) (λ plan. []) (second_text true) (λ plan. plan ≡ None) (λ plan. FitsMixedPlan kinds plan × (says_none plan ≡ true)) AnyBehind AnyBehind
      (record {
        texts = λ plan is. refl;
        to = λ plan is. subst (λ (p : Option (List MixedRoute)). FitsMixedPlan kinds p × (says_none p ≡ true)) (sym is) (tt, refl);
        from = λ plan is. is_none_at plan is.1;
        before = λ plan rest is before. tt;
      })
      (reader-answer None)
  reader-second false any = reader-behind 114 (codes "outes ") listed_at (λ plan. routes_text (listed plan)) IsListed AnyBehind reader-listed

  abbrev second_lines : Reader (Option (List MixedRoute))
  second_lines = then_reads (choice_at (codes "none" ++ 10 ∷ [])) (mixed_behind kinds)

  differs : (none : Bool) (plan : Option (List MixedRoute)) (rest : List ℕ) → BeforeChoice no_plan_line none (second_text none plan ++ rest)
  differs true plan rest = tt
  differs false plan rest = other_word 110 114 (codes "one" ++ 10 ∷ []) ((codes "outes " ++ routes_text (listed plan)) ++ rest) (λ same. omega arith)

  reader-second_lines : IsReader second_lines (λ plan. optional_text no_plan_line (says_none plan) ++ second_text (says_none plan) plan) (FitsMixedPlan kinds) AnyBehind
  reader-second_lines =
      reader-then (choice_at no_plan_line) (mixed_behind kinds) (optional_text no_plan_line) second_text (λ none. Unit {0}) (FitsMixedPlan kinds) (BeforeChoice no_plan_line) AnyBehind says_none
      (reader-choice 110 (codes "one" ++ 10 ∷ [])) reader-second (λ plan fits. tt) (λ plan rest fits before. differs (says_none plan) plan rest)

  same_text : (plan : Option (List MixedRoute)) → FitsMixedPlan kinds plan → (codes "evroute mixed plan 1" ++ 10 ∷ []) ++ (optional_text no_plan_line (says_none plan) ++ second_text (says_none plan) plan) ≡ mixed_plan_text plan
  same_text None fits = refl
  same_text (Some routes) fits = refl

  pub reader-file : IsReader (mixed_file_at kinds) mixed_plan_text (FitsMixedPlan kinds) AnyBehind
  reader-file =
      reader-as (mixed_file_at kinds) (λ plan. (codes "evroute mixed plan 1" ++ 10 ∷ []) ++ (optional_text no_plan_line (says_none plan) ++ second_text (says_none plan) plan)) mixed_plan_text (FitsMixedPlan kinds) (FitsMixedPlan kinds) AnyBehind AnyBehind
      (record { texts = same_text; to = λ plan is. is; from = λ plan is. is; before = λ plan rest is before. tt })
      (reader-behind 101 (codes "vroute mixed plan 1" ++ 10 ∷ []) second_lines (λ plan. optional_text no_plan_line (says_none plan) ++ second_text (says_none plan) plan) (FitsMixedPlan kinds) AnyBehind reader-second_lines)
