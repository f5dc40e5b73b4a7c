-- Listed routes with shares: what of a customer is covered, what all of them cost, and what is told
-- of the shares of an exact root.
use Rattle.std.specs.Prelude.{◌≡◌, ◌≢◌, ◌⊎◌, ℕ, ◌+◌, ◌*◌, ◌<◌, ◌≤◌, Bool, true, false, List, [], ◌∷◌, Option, None, Some, ℤ, pos, ◌*ℤ◌, if◌then◌else◌}
use Rattle.std.specs.List.{AllZip}
use Rattle.customer_sets.specs.CustSet.{has}
use Rattle.ev_model.specs.Network.{Network}
use Rattle.ev_model.specs.declared.Stop.{Stop}
use Rattle.fleet_model.specs.Cover.{IsExactRoot, Share as RouteShare}
use Rattle.fleet_model.specs.Places.{customer_count}
use Rattle.fleet_model.specs.Prices.{price_total}
use Rattle.fleet_model.specs.Section.{Section}
use Rattle.bound_certificate.specs.Meaning.{route_shares}
use Rattle.bound_certificate.specs.declared.certificate.Share.{Share}
use Rattle.certificate_check.specs.Routes.{IsListedRoute, IsRouteAmong}
use Rattle.certificate_check.specs.Rules.{HasFaultyShare, IsExactBroken}
use Rattle.certificate_check.specs.declared.cover.SharedRoute.{SharedRoute}

-- the share where the route serves a customer, and else 0
abbrev pub share_at : ℕ → SharedRoute → ℕ
share_at customer x = if has x.route.set customer then x.share else 0

-- the shares of the routes that serve a customer
abbrev pub shares_at : ℕ → List SharedRoute → ℕ
shares_at customer [] = 0
shares_at customer (x ∷ xs) = share_at customer x + shares_at customer xs

-- the sum of share times time
abbrev pub listed_cost : List SharedRoute → ℕ
listed_cost [] = 0
listed_cost (x ∷ xs) = x.share * x.route.time + listed_cost xs

-- the shares of each of so many customers add up to the weight of all
abbrev pub AreEven : ℕ → ℕ → List SharedRoute → Type 0
AreEven customers over xs = (c : ℕ) → c < customers → shares_at c xs ≡ over

-- the shares of some customer don't
abbrev pub AreUneven : ℕ → ℕ → List SharedRoute → Type 0
AreUneven customers over xs = (c : ℕ) × (c < customers) × (shares_at c xs ≢ over)

abbrev pub TellsEven : ℕ → ℕ → List SharedRoute → Bool → Type 0
TellsEven customers over xs true = AreEven customers over xs
TellsEven customers over xs false = AreUneven customers over xs

-- the shares over their weight cost the price sum over the weight of time
abbrev pub CostThePrices : ℕ → List ℤ → ℕ → List SharedRoute → Type 0
CostThePrices weight prices over xs =
    pos (listed_cost xs * weight) ≡ price_total prices *ℤ pos over

abbrev pub TellsCost : ℕ → List ℤ → ℕ → List SharedRoute → Bool → Type 0
TellsCost weight prices over xs true = (1 ≤ weight) × CostThePrices weight prices over xs
TellsCost weight prices over xs false =
    (weight ≡ 0) ⊎ (CostThePrices weight prices over xs → ⊥)

-- the shares cover each customer evenly, and cost the price sum over a weight above 0
pub record CoverExactly (customers weight : ℕ) (prices : List ℤ) (over : ℕ)
    (xs : List SharedRoute) : Type 0 where
  pub even : AreEven customers over xs
  pub some_weight : 1 ≤ weight
  pub cost : CostThePrices weight prices over xs

abbrev pub TellsCover : ℕ → ℕ → List ℤ → ℕ → List SharedRoute → Bool → Type 0
TellsCover customers weight prices over xs true = CoverExactly customers weight prices over xs
TellsCover customers weight prices over xs false =
    AreUneven customers over xs ⊎ TellsCost weight prices over xs false

-- a plan with a share, as a listed route of a fleet
pub record IsSharedRoute (g : Network) (amount : ℕ) (stops : List Stop)
    (x : SharedRoute) : Type 0 where
  pub share : x.share ≡ amount
  pub route : IsListedRoute g stops x.route
  pub among : IsRouteAmong (customer_count g) x.route

-- each share as a listed route of a fleet
abbrev pub AreShared : Network → List Share → List SharedRoute → Type 0
AreShared g shares xs = AllZip (λ x y. IsSharedRoute g x.share x.plan.stops y) shares xs

-- the shares are told as listed routes, or the plan of one of them is no route of a fleet
abbrev pub TellsShared : Network → List Share → Option (List SharedRoute) → Type 0
TellsShared g shares None = HasFaultyShare g (route_shares shares)
TellsShared g shares (Some xs) = AreShared g shares xs

abbrev pub TellsExact : Network → Section → ℕ → List RouteShare → Bool → Type 0
TellsExact g s over shares true = IsExactRoot g s over shares
TellsExact g s over shares false = IsExactBroken g s over shares
