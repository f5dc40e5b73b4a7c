-- Where a node's pairs are decided: its routes are chains of customers, each chain with its only order.
use Rattle.std.specs.Prelude.{◌≡◌, ℕ, ◌<◌, ◌≤◌, List, [], ◌∷◌, ◌++◌, ◌&&◌, Bool, true, length, nat_eq, not, pos, replicate, set, ℤ, ◌≤ℤ◌, MatchOption, Option}
use Rattle.std.specs.List.{All, list_any}
use Rattle.customer_sets.specs.Pairs.{ForbiddenPairs}
use Rattle.ev_model.specs.Fastest.{IsFastest}
use Rattle.ev_model.specs.Fleet.{all_customers, cost_of, customers_of, times_in}
use Rattle.ev_model.specs.Network.{is_customer, Network, node_count}
use Rattle.ev_model.specs.Time.{time_of}
use Rattle.ev_model.specs.declared.Stop.{Stop}
use Rattle.fleet_model.specs.Places.{customer_number, numbers_of}
use Rattle.fleet_model.specs.Prices.{price_sum, price_total}
use Rattle.bound_certificate.specs.Ranges.{IsPrice}
use Rattle.bound_certificate.specs.declared.certificate.Section.{Section}
use Rattle.bound_certificate.specs.declared.certificate.Share.{Share}
use Rattle.column_pool.specs.Bounds.{IsEmpty, plans_of}
use Rattle.column_pool.specs.Columns.{IsNodeRoute}
use Rattle.column_pool.specs.declared.decided.Chain.{Chain}
use Rattle.column_pool.specs.declared.decided.Chain.TheVariants as chain

-- a route of the node, than which no plan with the same customers in the same order is faster
pub record IsChain (g : Network) (p : ForbiddenPairs) (stops : List Stop) : Type 0 where
  pub route : IsNodeRoute g p stops
  pub fastest : IsFastest g (0 ∷ customers_of g stops ++ 0 ∷ []) g.capacity stops

-- a chain that serves the customer at a node, with its order; or a section that shows that there is none
abbrev pub IsChainThrough : Network → ForbiddenPairs → ℕ → Chain → Type 0
IsChainThrough g p node (chain.Route order plan) =
    IsChain g p plan.stops × (customers_of g plan.stops ≡ order.items)
    × (1 ≤ times_in order.items node)
IsChainThrough g p node (chain.None section) = IsEmpty g p section

-- a price of 1 for one of so many customers, by number, and of 0 for the others
abbrev pub lone_price : ℕ → ℕ → List ℤ
lone_price customers number = set (replicate customers (pos 0)) number (pos 1)

-- a plan serves the customer at a node
abbrev pub serves : ℕ → List Stop → Bool
serves node stops = list_any (λ s. not s.via && nat_eq s.node node) stops

abbrev pub is_served : ℕ → List Share → Bool
is_served node shares = list_any (λ x. serves node x.plan.stops) shares

-- the prices of a plan's customers come to no more than its time
abbrev pub PaysNoMore : Network → List ℤ → List Stop → Type 0
PaysNoMore g prices stops =
    price_sum prices (numbers_of g stops) ≤ℤ pos (time_of g 1 g.capacity stops)

-- the chains of the first customers, up to a number, each with the share 1, and the prices of these customers
pub record AreChains (g : Network) (p : ForbiddenPairs) (number : ℕ) (shares : List Share)
    (prices : List ℤ) : Type 0 where
  pub chains : All (λ x. IsChain g p x.plan.stops) shares
  pub whole : All (λ x. x.share ≡ 1) shares
  pub once : (node : ℕ) → is_customer g node ≡ true →
      times_in (all_customers g (plans_of shares)) node ≤ 1
  pub served : (node : ℕ) → node < node_count g → is_customer g node ≡ true →
      customer_number g node < number → 1 ≤ times_in (all_customers g (plans_of shares)) node
  pub count : length prices ≡ number
  pub sum : price_total prices ≡ pos (cost_of g 1 (plans_of shares))
  pub pays : All (λ x. PaysNoMore g prices x.plan.stops) shares
  pub small : All IsPrice prices

-- the chains of the first customers, or a section that shows that no fleet plan keeps the pairs
abbrev pub HasChains : Network → ForbiddenPairs → ℕ → List Share → List ℤ → Option Section → Type 0
HasChains g p number shares prices found =
    MatchOption found (AreChains g p number shares prices) (IsEmpty g p)
