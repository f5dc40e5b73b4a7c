-- The exact test of wide bases, on the columns of a certificate.
use Rattle.std.proofs.Common.{◌≡◌, ◌∙◌, ℕ, zero, suc, ◌+◌, ◌<◌, Bool, true, false, List, [], ◌∷◌, ◌++◌, Option, Some, Result, Ok, Err, length, map, refl, sym, ap, subst, arith, inr}
use Rattle.std.specs.List.{All, range_with_len}
use Rattle.std.specs.Prelude.{IfOk, option_map}
use Rattle.std.proofs.lemmas.List.Elements.{All-cons, All-head, All-nil, All-tail}
use Rattle.ev_model.specs.Network.{Network}
use Rattle.fleet_model.specs.Cover.{IsFleetRoute}
use Rattle.fleet_model.specs.Equations.{Column as TableColumn, column_at, helper, helpers}
use Rattle.fleet_model.specs.Places.{customer_count}
use Rattle.fleet_model.specs.Wide.{IsTooWide}
use Rattle.route_plan.specs.declared.plan.RoutePlan.{RoutePlan}
use Rattle.bound_certificate.specs.Meaning.{basis_columns, entry_column, route_columns}
use Rattle.bound_certificate.specs.Ranges.{EntryFits}
use Rattle.certificate_parts.specs.declared.entry.BasisEntry.{BasisEntry}
use Rattle.certificate_parts.specs.declared.entry.BasisEntry.TheVariants.{Column, Helper}
use Rattle.master_table.specs.Listed.{listed_columns, route_columns as listed_routes}
use Rattle.master_table.specs.declared.listed.ListedRoute.{ListedRoute}
use Rattle.certificate_check.specs.Columns.{AreAlike, AreListed, entry_number, StandFor, TellsColumns, TellsTooWide, TellsWide}
use Rattle.certificate_check.specs.Routes.{IsListedRoute}
use Rattle.certificate_check.proofs.Zips.{zip_left}
use Rattle.certificate_check.proofs.Alike.{alike_at, alike_self, all_back, AllAlike, too_wide}

-- columns that stand for listed routes
pub alike_of : (columns : List TableColumn) (routes : List ListedRoute) → StandFor columns routes → AllAlike (listed_routes routes) columns
alike_of [] [] stand = tt
alike_of [] (r ∷ routes) stand = stand
alike_of (c ∷ columns) [] stand = stand
alike_of (c ∷ columns) (r ∷ routes) stand = (stand.0, alike_of columns routes stand.1)

-- those of plans stand for the listed routes that the plans are
pub stand_for : (g : Network) (plans : List RoutePlan) (routes : List ListedRoute) → AreListed g plans routes → StandFor (route_columns g plans) routes
stand_for g [] [] are = tt
stand_for g [] (r ∷ routes) are = are
stand_for g (p ∷ plans) [] are = are
stand_for g (p ∷ plans) (r ∷ routes) are = (record { serve = are.0.set; cost = are.0.time; help = refl }, stand_for g plans routes are.1)

-- the columns by number: the helpers, and then the routes
at_helper : (n a j : ℕ) (rest : List TableColumn) → j < n → column_at (map helper (range_with_len a n) ++ rest) j ≡ helper (a + j)
at_helper zero a j rest less = absurd (omega (arith, less))
at_helper (suc n) a zero rest less = let same : a ≡ a + 0 = omega arith in ap helper same
at_helper (suc n) a (suc j) rest less =
    let same : a + 1 + j ≡ a + suc j = omega arith in
    at_helper n (a + 1) j rest (omega (arith, less)) ∙ ap helper same

at_route : (n a k : ℕ) (rest : List TableColumn) → column_at (map helper (range_with_len a n) ++ rest) (n + k) ≡ column_at rest k
at_route zero a k rest = let same : 0 + k ≡ k = omega arith in ap (column_at rest) same
at_route (suc n) a k rest =
    let same : suc n + k ≡ suc (n + k) = omega arith in
    ap (column_at (map helper (range_with_len a (suc n)) ++ rest)) same ∙ at_route n (a + 1) k rest

entry_alike : (n : ℕ) (xs ys : List TableColumn) → AllAlike xs ys → (e : BasisEntry) → EntryFits n (length xs) e → AreAlike (column_at (helpers n ++ xs) (entry_number n e)) (entry_column ys e)
entry_alike n xs ys al (Helper c) fits =
    let same : 0 + c ≡ c = omega arith in
    subst (λ (x : TableColumn). AreAlike x (helper c)) (sym (at_helper n 0 c xs fits ∙ ap helper same)) (alike_self (helper c))
entry_alike n xs ys al (Column k) fits = subst (λ (x : TableColumn). AreAlike x (column_at ys k)) (sym (at_route n 0 k xs)) (alike_at xs ys al k)

entries_alike : (n : ℕ) (xs ys : List TableColumn) → AllAlike xs ys → (es : List BasisEntry) → All (EntryFits n (length xs)) es
    → AllAlike (map (column_at (helpers n ++ xs)) (map (entry_number n) es)) (map (entry_column ys) es)
entries_alike n xs ys al [] fit = tt
entries_alike n xs ys al (e ∷ es) fit =
    (entry_alike n xs ys al e (All-head (EntryFits n (length xs)) e es fit), entries_alike n xs ys al es (All-tail (EntryFits n (length xs)) e es fit))

many_columns : (routes : List ListedRoute) → length (listed_routes routes) ≡ length routes
many_columns [] = refl
many_columns (r ∷ routes) = ap suc (many_columns routes)

pub numbers_small : (n k : ℕ) (es : List BasisEntry) → All (EntryFits n k) es → All (λ j. j < n + k) (map (entry_number n) es)
numbers_small n k [] fit = All-nil (λ j. j < n + k)
numbers_small n k (e ∷ es) fit = All-cons (λ j. j < n + k) (entry_number n e) (map (entry_number n) es) (small e (All-head (EntryFits n k) e es fit)) (numbers_small n k es (All-tail (EntryFits n k) e es fit))
  where
    small : (e : BasisEntry) → EntryFits n k e → entry_number n e < n + k
    small (Helper c) fits = omega (arith, fits)
    small (Column j) fits = omega (arith, fits)

-- what the test answers is told of all columns that stand for the routes
module _ (n : ℕ) (routes : List ListedRoute) (entries : List ℕ) (basis : List BasisEntry) (numbered : entries ≡ map (entry_number n) basis) (fit : All (EntryFits n (length routes)) basis) where
  module _ (columns : List TableColumn) (stand : StandFor columns routes) where
    columns_al : AllAlike (listed_routes routes) columns
    columns_al = alike_of columns routes stand

    basis_al : AllAlike (listed_columns n routes entries) (map (entry_column columns) basis)
    basis_al =
        subst (λ (es : List ℕ). AllAlike (listed_columns n routes es) (map (entry_column columns) basis)) (sym numbered)
        (entries_alike n (listed_routes routes) columns columns_al basis (subst (λ (k : ℕ). All (EntryFits n k) basis) (sym (many_columns routes)) fit))

    told_by : (answer : Bool) → (answer ≡ true → IsTooWide n (listed_routes routes) (listed_columns n routes entries))
        → (answer ≡ false → IsTooWide n (listed_routes routes) (listed_columns n routes entries) → ⊥) → TellsTooWide n columns (map (entry_column columns) basis) answer
    told_by true wide narrow = too_wide n (listed_routes routes) columns (listed_columns n routes entries) (map (entry_column columns) basis) columns_al basis_al (wide refl)
    told_by false wide narrow = λ is.
        narrow refl (too_wide n columns (listed_routes routes) (map (entry_column columns) basis) (listed_columns n routes entries)
        (all_back (listed_routes routes) columns columns_al) (all_back (listed_columns n routes entries) (map (entry_column columns) basis) basis_al) is)

  pub told_result : {E : Type 0} (r : Result Bool E) → IfOk r (λ answer. answer ≡ true → IsTooWide n (listed_routes routes) (listed_columns n routes entries))
      → IfOk r (λ answer. answer ≡ false → IsTooWide n (listed_routes routes) (listed_columns n routes entries) → ⊥)
      → IfOk r (λ answer. (columns : List TableColumn) → StandFor columns routes → TellsTooWide n columns (map (entry_column columns) basis) answer)
  told_result (Ok answer) wide narrow = λ columns stand. told_by columns stand answer wide narrow
  told_result (Err e) wide narrow = tt

-- and so of a wide root
module _ (g : Network) (plans : List RoutePlan) (basis : List BasisEntry) (routes : List ListedRoute) (listed : AreListed g plans routes) where
  root_by : (answer : Bool) → TellsTooWide (customer_count g) (route_columns g plans) (basis_columns g plans basis) answer → TellsWide g plans basis answer
  root_by true is = record {
    routes = zip_left (λ (p : RoutePlan) (r : ListedRoute). IsListedRoute g p.stops r) (λ (p : RoutePlan). IsFleetRoute g 1 p.stops) (λ p r is. is.route) plans routes listed;
    wide = is;
  }
  root_by false is = inr is

  pub told_wide : {E : Type 0} (n : ℕ) (r : Result Bool E) → n ≡ customer_count g →
      IfOk r (λ answer. (columns : List TableColumn) → StandFor columns routes → TellsTooWide n columns (map (entry_column columns) basis) answer) → IfOk r (TellsWide g plans basis)
  told_wide n (Ok answer) count is =
      root_by answer (subst (λ (k : ℕ). TellsTooWide k (route_columns g plans) (basis_columns g plans basis) answer) count (is (route_columns g plans) (stand_for g plans routes listed)))
  told_wide n (Err e) count is = tt

-- where the plans are told as routes, they are listed
pub columns_listed : {V : Type 0} (g : Network) (plans : List RoutePlan) (items : V → List ListedRoute) (o : Option V) (v : V) → o ≡ Some v → TellsColumns g plans (option_map items o) → AreListed g plans (items v)
columns_listed g plans items o v is told = subst (λ x. TellsColumns g plans (option_map items x)) is told
