-- The walks along the routes of a plan, each by a vehicle of its kind.
use Rattle.std.proofs.Common.{◌≡◌, ◌∙◌, ℕ, ◌+◌, ◌<◌, List, [], ◌∷◌, ◌++◌, Some, length, get_or, take, refl, sym, ap, subst, arith}
use Rattle.std.specs.List.{All}
use Rattle.std.specs.Prelude.{slice_get}
use Rattle.std.proofs.lemmas.List.{get_or-take, length-take-le, map_more}
use Rattle.std.proofs.lemmas.List.Elements.{All-get_or, All-more}
use Rattle.std.proofs.lemmas.Option.{get_or_from_slice_get, slice_get-get_or}
use Rattle.ev_model.specs.Network.{Network}
use Rattle.route_plan.specs.declared.walks.WalkFault.{WalkFault}
use Rattle.plan_check.specs.declared.fault.PlanFault.TheVariants.{Walk}
use Rattle.mixed_model.specs.Meaning.{kind_plan, kind_plans}
use Rattle.mixed_model.specs.Plans.{IsFeasibleIn, KindPlan, mixed_cost, time_in}
use Rattle.mixed_model.specs.declared.proof.MixedRoute.{MixedRoute}
use Rattle.mixed_model.specs.MixedRules.{FailsWalk, IsFirstWalk}

cost_append : (kinds : List Network) (k : ℕ) (xs ys : List KindPlan) → mixed_cost kinds k (xs ++ ys) ≡ mixed_cost kinds k xs + mixed_cost kinds k ys
cost_append kinds k [] ys = omega arith
cost_append kinds k (x ∷ xs) ys = omega (arith, cost_append kinds k xs ys)

-- the cost of one route more
pub cost_more : (kinds : List Network) (plan : List MixedRoute) (i : ℕ) (r : MixedRoute) → i < length plan → r ≡ get_or plan i r →
    mixed_cost kinds 1 (kind_plans (take (i + 1) plan)) ≡ mixed_cost kinds 1 (kind_plans (take i plan)) + time_in kinds 1 (kind_plan r)
cost_more kinds plan i r within is =
    let more : kind_plans (take (i + 1) plan) ≡ kind_plans (take i plan) ++ kind_plan r ∷ [] =
    map_more kind_plan plan i r within ∙ ap (λ (q : MixedRoute). kind_plans (take i plan) ++ kind_plan q ∷ []) (sym is) in
    let both = cost_append kinds 1 (kind_plans (take i plan)) (kind_plan r ∷ []) in
    rw more (omega (arith, both))

abbrev pub Walked : List Network → MixedRoute → Type 0
Walked kinds r = IsFeasibleIn kinds 1 (kind_plan r)

pub walked_more : (kinds : List Network) (plan : List MixedRoute) (i : ℕ) (r : MixedRoute) → i < length plan → r ≡ get_or plan i r → All (Walked kinds) (take i plan) → Walked kinds r → All (Walked kinds) (take (i + 1) plan)
walked_more kinds plan i r within is before here = All-more (Walked kinds) plan i r within before (subst (Walked kinds) is here)

pub first_walk : (kinds : List Network) (plan : List MixedRoute) (i : ℕ) (r : MixedRoute) (reason : WalkFault) → i < length plan → r ≡ get_or plan i r → All (Walked kinds) (take i plan) → FailsWalk kinds r reason →
    IsFirstWalk kinds plan (Walk i reason)
first_walk kinds plan i r reason within is before fails = record {
  route = i;
  own = r;
  reason = reason;
  is = refl;
  there = slice_get-get_or plan i r within ∙ ap (λ (q : MixedRoute). Some q) (sym is);
  fails = fails;
  before = earlier;
}
  where
    earlier : (other : ℕ) (q : MixedRoute) → other < i → slice_get plan other ≡ Some q → Walked kinds q
    earlier other q below at =
        let inside : other < length (take i plan) = omega (arith, below, within, length-take-le i plan (omega (arith, within))) in
        subst (Walked kinds) (get_or-take i plan other q below ∙ get_or_from_slice_get plan other q q at) (All-get_or (Walked kinds) (take i plan) other q inside before)
