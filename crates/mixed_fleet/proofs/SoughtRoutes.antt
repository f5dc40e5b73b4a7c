-- Routes that pricing has found for a kind, without what shows that there are no others.
use Rattle.std.proofs.Common.{◌≡◌, ◌∙◌, ℕ, ◌<◌, List, map, length, sym, ap, subst, ℤ}
use Rattle.std.specs.List.{All}
use Rattle.customer_sets.specs.Pairs.{ForbiddenPairs}
use Rattle.ev_model.specs.Network.{Network}
use Rattle.pricing.specs.Answers.{IsBetterRoute}
use Rattle.pricing.specs.declared.priced.PricedRoute.{PricedRoute}
use Rattle.price_loop.specs.Problems.{IsEarning}
use Rattle.route_pool.specs.Pool.{IsPool}
use Rattle.mixed_model.specs.Kinds.{network_of}
use Rattle.mixed_fleet.specs.Problem.{problem_of}
use Rattle.mixed_fleet.specs.Searched.{searched_of}
use Rattle.mixed_fleet.specs.declared.searched.Searched.{Searched}
use Rattle.mixed_fleet.proofs.KindAnswers.{all_earn, better_pool, question}

module _ (kinds : List Network) (kind : ℕ) (known : kind < length kinds) (h : Network) (same : network_of kinds kind ≡ h) (pairs : ForbiddenPairs) (weight w : ℕ) (prices ps : List ℤ) (weights : w ≡ weight) (alike : ps ≡ prices) (routes : List PricedRoute) (better : All (IsBetterRoute (question h pairs w ps)) routes) where
  better_here : All (IsBetterRoute (question (network_of kinds kind) pairs weight prices)) routes
  better_here =
      subst (λ (qs : List ℤ). All (IsBetterRoute (question (network_of kinds kind) pairs weight qs)) routes) alike
      (subst (λ (k : ℕ). All (IsBetterRoute (question (network_of kinds kind) pairs k ps)) routes) weights
      (subst (λ (g : Network). All (IsBetterRoute (question g pairs w ps)) routes) (sym same) better))

  pub sought_pool : IsPool h routes
  sought_pool = better_pool h pairs w ps routes better

  pub sought_earn : (rs : List Searched) → rs ≡ map (λ (r : PricedRoute). searched_of h kind r.order.items r.plan) routes → All (IsEarning (problem_of kinds) weight prices) rs
  sought_earn rs made =
      let here = ap (λ (g : Network). map (λ (r : PricedRoute). searched_of g kind r.order.items r.plan) routes) (sym same) in
      subst (λ (xs : List Searched). All (IsEarning (problem_of kinds) weight prices) xs) (sym (made ∙ here))
      (all_earn kinds kind known pairs weight prices routes better_here)
