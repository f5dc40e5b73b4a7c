-- The plan that is held costs no more than whole shares, also later in the search.
use Rattle.std.proofs.Common.{◌≡◌, ◌∙◌, ℕ, ◌*◌, ◌≤◌, List, [], ◌∷◌, ◌++◌, Option, Some, None, inl, inr, refl, sym, ap, subst, arith}
use Rattle.std.specs.Prelude.{pos}
use Rattle.std.specs.List.{All}
use Rattle.std.proofs.lemmas.List.Elements.{All-push, All-weaker}
use Rattle.ev_model.specs.Fleet.{IsFleetPlan, cost_of}
use Rattle.ev_model.specs.Network.{Network}
use Rattle.ev_model.specs.declared.Stop.{Stop}
use Rattle.fleet_model.specs.Prices.{price_total}
use Rattle.bound_certificate.specs.Meaning.{priced_section, route_shares}
use Rattle.bound_certificate.specs.declared.certificate.Root.{Root}
use Rattle.bound_certificate.specs.declared.certificate.Root.TheVariants as root
use Rattle.bound_certificate.specs.declared.certificate.Section.{Section}
use Rattle.bound_certificate.specs.declared.certificate.Share.{Share}
use Rattle.column_pool.specs.Bounds.{IsNodeBound, plans_of}
use Rattle.ev_fleet.specs.Answers.{answer_of, shares_in}
use Rattle.certificate_check.proofs.RoundedSums.{rounded_is_cost}
use Rattle.ev_fleet.specs.Bounds.{IsAtMost}
use Rattle.ev_fleet.specs.Whole.{IsNoDearer, ReachesCost, ReachesWhole, TakesShares}
use Rattle.ev_fleet.proofs.AtBound.{costs_bound, plans_in}
use Rattle.ev_fleet.proofs.Bounds.{most_most}

pub plan_reaches : (s : Section) (plan : ℕ) (cost : Option ℕ) → 1 ≤ s.weight → price_total s.prices ≡ pos (s.weight * plan) → IsAtMost cost (Some plan) → ReachesCost cost s
plan_reaches s plan cost some same low None bounds = tt
plan_reaches s plan cost some same low (Some own) bounds = elim bounds [
  | inl rounded ↦
      let is : own ≡ plan = rounded_is_cost (price_total s.prices) s.weight plan own some same rounded.1 in
      let most : IsAtMost (Some plan) (Some own) = omega (arith, is) in
      most_most cost (Some plan) (Some own) low most
  | inr none ↦ let zero = none.0 in absurd (omega (arith, some, zero))
]

plans_same : (shares : List Share) → plans_in (route_shares shares) ≡ plans_of shares
plans_same [] = refl
plans_same (x ∷ shares) = ap (λ (ps : List (List Stop)). x.plan.stops ∷ ps) (plans_same shares)

reaches_whole : (g : Network) (cost : Option ℕ) (s : Section) (r : Root) → IsNodeBound g s.pairs (answer_of s r) → TakesShares g (shares_in r) cost → ReachesWhole g cost s r
reaches_whole g cost s root.None shown takes = tt
reaches_whole g cost s (root.Exact over shares) shown takes = λ fleet.
    let same = plans_same shares in
    let whole : IsFleetPlan g 1 (plans_in (route_shares shares)) = subst (IsFleetPlan g 1) (sym same) fleet in
    let sum : price_total s.prices ≡ pos (s.weight * cost_of g 1 (plans_in (route_shares shares))) = costs_bound g (priced_section s) over (route_shares shares) shown.exact whole in
    let paid : price_total s.prices ≡ pos (s.weight * cost_of g 1 (plans_of shares)) = sum ∙ ap (λ ps. pos (s.weight * cost_of g 1 ps)) same in
    plan_reaches s (cost_of g 1 (plans_of shares)) cost shown.exact.some_weight paid (takes fleet)
reaches_whole g cost s (root.Wide columns basis) shown takes = tt

pub no_dearer : (g : Network) (cost : Option ℕ) (s : Section) (r : Root) → IsNodeBound g s.pairs (answer_of s r) → TakesShares g (shares_in r) cost → IsNoDearer g cost s
no_dearer g cost s r shown takes = record { root = r; shown = shown; taken = takes; reached = reaches_whole g cost s r shown takes }

pub takes_lower : (g : Network) (shares : List Share) (cost lower : Option ℕ) → IsAtMost lower cost → TakesShares g shares cost → TakesShares g shares lower
takes_lower g shares cost lower most takes fleet = most_most lower cost (Some (cost_of g 1 (plans_of shares))) most (takes fleet)

pub whole_more : (g : Network) (sections : List Section) (s : Section) (cost lower : Option ℕ) → IsAtMost lower cost → All (IsNoDearer g cost) sections → IsNoDearer g lower s
    → All (IsNoDearer g lower) (sections ++ s ∷ [])
whole_more g sections s cost lower most all is =
    All-push (IsNoDearer g lower) sections s
    (All-weaker (IsNoDearer g cost) (IsNoDearer g lower) (λ x old. no_dearer g lower x old.root old.shown (takes_lower g (shares_in old.root) cost lower most old.taken)) sections all) is

pub reaches_lower : (s : Section) (cost lower : Option ℕ) → IsAtMost lower cost → ReachesCost cost s → ReachesCost lower s
reaches_lower s cost lower most reaches own bounds = most_most lower cost own most (reaches own bounds)
