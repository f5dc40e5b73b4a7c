-- Fractional covers by routes of several kinds of vehicles (the linear relaxation of set
-- partitioning: Desaulniers, Desrosiers, Solomon 2005).
use Rattle.std.specs.Prelude.{◌≡◌, ℕ, ◌+◌, ◌*◌, ◌<◌, ◌≤◌, true, List, [], ◌∷◌, length, map, ℤ, pos, ◌*ℤ◌}
use Rattle.std.specs.List.{All}
use Rattle.ev_model.specs.Network.{is_customer, Network, node_count}
use Rattle.fleet_model.specs.Cover.{IsFleetRoute, Share, shares_of}
use Rattle.fleet_model.specs.Prices.{price_total}
use Rattle.mixed_model.specs.Kinds.{first_of, network_of}
use Rattle.mixed_model.specs.Plans.{KindPlan, time_in}

-- the plan is a route of a fleet in the network of its kind
pub record IsKindRoute (kinds : List Network) (k : ℕ) (p : KindPlan) : Type 0 where
  pub known : p.kind < length kinds
  pub route : IsFleetRoute (network_of kinds p.kind) k p.stops

pub record KindShare : Type 0 where
  pub share : ℕ
  pub plan : KindPlan

-- the shares without the kinds of their plans
abbrev pub plain_shares : List KindShare → List Share
plain_shares shares = map (λ x. record { share = x.share; plan = x.plan.stops }) shares

-- the sum of share times time, each in the network of its kind, in kths
abbrev pub mixed_cost_of_shares : List Network → ℕ → List KindShare → ℕ
mixed_cost_of_shares kinds k [] = 0
mixed_cost_of_shares kinds k (x ∷ shares) =
    x.share * time_in kinds k x.plan + mixed_cost_of_shares kinds k shares

-- a fractional cover in kths with a weight: it costs the sum of share times time over k times the
-- weight
pub record IsMixedCover (kinds : List Network) (k weight : ℕ)
    (shares : List KindShare) : Type 0 where
  pub some_weight : 1 ≤ weight
  pub some_share : All (λ x. 1 ≤ x.share) shares
  pub routes : All (λ x. IsKindRoute kinds k x.plan) shares
  pub covers : (node : ℕ) → node < node_count (first_of kinds) →
      is_customer (first_of kinds) node ≡ true →
      shares_of (first_of kinds) (plain_shares shares) node ≡ weight

-- the shares show that prices over a weight of time are the least cost of a fractional cover: they
-- are a cover in whole plans that costs the price sum over the weight
pub record IsExactCover (kinds : List Network) (weight : ℕ) (prices : List ℤ) (over : ℕ)
    (shares : List KindShare) : Type 0 where
  pub cover : IsMixedCover kinds 1 over shares
  pub some_weight : 1 ≤ weight
  pub cost : pos (mixed_cost_of_shares kinds 1 shares * weight) ≡ price_total prices *ℤ pos over
