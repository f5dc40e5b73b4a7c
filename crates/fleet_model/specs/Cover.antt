-- Fractional covers: feasible plans with shares, which cover each customer equally (the linear relaxation of
-- set partitioning: Desaulniers, Desrosiers, Solomon 2005).
use Rattle.std.specs.Prelude.{◌≡◌, ◌≢◌, ℕ, ◌+◌, ◌*◌, ◌<◌, ◌≤◌, Bool, true, List, [], ◌∷◌, pos, ◌*ℤ◌}
use Rattle.std.specs.List.{All}
use Rattle.ev_model.specs.Feasible.{IsFeasible}
use Rattle.ev_model.specs.Fleet.{customers_of, ServesOnly, times_in}
use Rattle.ev_model.specs.Network.{Network, node_count, is_customer}
use Rattle.ev_model.specs.Time.{time_of}
use Rattle.ev_model.specs.declared.Stop.{Stop}
use Rattle.fleet_model.specs.Pairs.{PlanKeepsPairs}
use Rattle.fleet_model.specs.Prices.{price_total}
use Rattle.fleet_model.specs.Section.{Section}

-- a plan of a fleet that serves no customer twice
pub record IsFleetRoute (g : Network) (k : ℕ) (plan : List Stop) : Type 0 where
  pub feasible : IsFeasible g k g.capacity plan
  pub some : customers_of g plan ≢ []
  pub only : ServesOnly g plan
  pub once : (node : ℕ) → is_customer g node ≡ true → times_in (customers_of g plan) node ≤ 1

pub record Share : Type 0 where
  pub share : ℕ
  pub plan : List Stop

-- the shares of the plans that serve a customer
abbrev pub shares_of : Network → List Share → ℕ → ℕ
shares_of g [] node = 0
shares_of g (x ∷ shares) node =
    x.share * times_in (customers_of g x.plan) node + shares_of g shares node

-- the sum of share times time, in kths
abbrev pub cost_of_shares : Network → ℕ → List Share → ℕ
cost_of_shares g k [] = 0
cost_of_shares g k (x ∷ shares) =
    x.share * time_of g k g.capacity x.plan + cost_of_shares g k shares

-- a fractional cover in kths with a weight: it costs the sum of share times time over k times the weight
pub record IsFractionalCover (g : Network) (k weight : ℕ) (shares : List Share) : Type 0 where
  pub some_weight : 1 ≤ weight
  pub some_share : All (λ x. 1 ≤ x.share) shares
  pub routes : All (λ x. IsFleetRoute g k x.plan) shares
  pub covers : (node : ℕ) → node < node_count g → is_customer g node ≡ true →
      shares_of g shares node ≡ weight

abbrev pub CoverKeepsPairs : Network → (ℕ → ℕ → Bool) → List Share → Type 0
CoverKeepsPairs g allows shares = All (λ x. PlanKeepsPairs g allows x.plan) shares

-- the shares show that the bound of a section is the least cost of a fractional cover: they are a cover in
-- whole plans whose cost is the price sum over the weight
pub record IsExactRoot (g : Network) (s : Section) (over : ℕ) (shares : List Share) : Type 0 where
  pub cover : IsFractionalCover g 1 over shares
  pub some_weight : 1 ≤ s.weight
  pub cost : pos (cost_of_shares g 1 shares * s.weight) ≡ price_total s.prices *ℤ pos over
