-- Reading the lines of a plan, one after another.
use Rattle.std.proofs.Common.{◌≡◌, ◌∙◌, ℕ, suc, List, [], ◌∷◌, ◌++◌, Ok, Err, codes, refl, ap}
use Rattle.ev_text.specs.Readers.{so_many}
use Rattle.ev_text.specs.Scans.{word_at}
use Rattle.ev_text.specs.declared.TextFault.{TextFault}
use Rattle.ev_text.proofs.Loops.{IsReadUpTo, many-begins, many-breaks, many-ends, many-goes_on}
use Rattle.route_plan.specs.PlanReading.{or_bad}
use Rattle.route_plan.specs.declared.text.plan_text.PlanText.{PlanText}
use Rattle.route_plan.proofs.PlanLoops.{bad_since}
use Rattle.mixed_model.specs.declared.proof.MixedRoute.{MixedRoute}
use Rattle.mixed_model.specs.MixedReading.{mixed_file_at, mixed_route_at}

module _ (kinds : ℕ) where
  abbrev pub AreRoutesTo : List ℕ × ℕ → ℕ → List MixedRoute → ℕ → List ℕ × ℕ → Type 0
  AreRoutesTo start count routes left s = IsReadUpTo (mixed_route_at kinds) (so_many count (mixed_route_at kinds) start) routes left s

  pub begins_routes : (start : List ℕ × ℕ) (count left : ℕ) (routes : List MixedRoute) → left ≡ count → routes ≡ [] → AreRoutesTo start count routes left start
  begins_routes start count left routes same none = many-begins (mixed_route_at kinds) count left routes start same none

  pub next_route : (start s t : List ℕ × ℕ) (count left fewer : ℕ) (routes more : List MixedRoute) (route : MixedRoute) → left ≡ suc fewer
      → AreRoutesTo start count routes left s → mixed_route_at kinds s ≡ Ok (route, t) → more ≡ routes ++ route ∷ [] → AreRoutesTo start count more fewer t
  next_route start s t count left fewer routes more route one so_far found is =
      many-goes_on (mixed_route_at kinds) (so_many count (mixed_route_at kinds) start) s t left fewer routes more route one so_far found is

  pub no_route : (start s : List ℕ × ℕ) (count left fewer : ℕ) (routes : List MixedRoute) (fault : PlanText) → left ≡ suc fewer → AreRoutesTo start count routes left s → or_bad (mixed_route_at kinds s) ≡ Err fault →
      or_bad (so_many count (mixed_route_at kinds) start) ≡ Err fault
  no_route start s count left fewer routes fault one so_far is =
      let bad = bad_since (mixed_route_at kinds s) fault is in
      ap or_bad (many-breaks (mixed_route_at kinds) (so_many count (mixed_route_at kinds) start) s left fewer routes bad.0 one so_far bad.1) ∙ ap (λ f. Err f) bad.2

  pub ends_routes : (start s : List ℕ × ℕ) (count left : ℕ) (routes : List MixedRoute) → left ≡ 0 → AreRoutesTo start count routes left s → so_many count (mixed_route_at kinds) start ≡ Ok (routes, s)
  ends_routes start s count left routes none so_far = many-ends (mixed_route_at kinds) (so_many count (mixed_route_at kinds) start) s left routes none so_far

  -- the word of the first line is missing
  pub no_first_line : (s : List ℕ × ℕ) (fault : TextFault) → word_at (codes "evroute mixed plan 1" ++ 10 ∷ []) s ≡ Err fault → mixed_file_at kinds s ≡ Err fault
  no_first_line s fault found = rw found refl
