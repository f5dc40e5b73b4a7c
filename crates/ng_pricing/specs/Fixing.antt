-- How the price of one customer is fixed, and those of all.
use Rattle.std.specs.Prelude.{◌≡◌, ℕ, ◌<◌, ◌≤◌, List, [], None, Some, IfNone, IfSome, get_or, length, replicate, set, slice_get}
use Rattle.std.specs.List.{All}
use Rattle.certificate_parts.specs.Ranges.{ColumnFits}
use Rattle.ev_model.specs.Network.{IsNetwork, Network}
use Rattle.instance_reader.specs.Instance.{customer_nodes, most_customers}
use Rattle.near_pricing.specs.Answers.{AreClosedLabels}
use Rattle.near_proof.specs.Accepted.{IsTight}
use Rattle.near_proof.specs.Ranges.{greatest_near_price, SetsFit}
use Rattle.near_proof.specs.Terms.{price_total, Terms}
use Rattle.near_proof.specs.Truth.{NearRoutesPay}
use Rattle.near_proof.specs.declared.proof.NearProof.{NearProof}
use Rattle.route_plan.specs.declared.plan.RoutePlan.{RoutePlan}
use Rattle.ng_pricing.specs.Met.{AreMet, IsLimit}
use Rattle.ng_pricing.specs.Rising.{AreLowered, begun_from, StandsOnNone, terms_at}
use Rattle.ng_pricing.specs.declared.limits.First.{First}
use Rattle.ng_pricing.specs.declared.limits.First.TheVariants.{Limited, Unserved}
use Rattle.ng_pricing.specs.declared.lowering.Begun.{Begun}
use Rattle.ng_pricing.specs.declared.met.MetRoute.{MetRoute}
use Rattle.ng_pricing.specs.declared.raising.Fixed.{Fixed}
use Rattle.ng_pricing.specs.declared.raising.Raised.{Raised}
use Rattle.ng_pricing.specs.declared.raising.Raised.TheVariants.{Nowhere, Priced}
use Rattle.ng_pricing.specs.declared.raising.Rising.{Rising}
use Rattle.ng_pricing.specs.declared.setting.ClosedAt.{ClosedAt}
use Rattle.ng_pricing.specs.declared.setting.Setting.{Setting}

-- an instance of at most 128 customers, with a near set for each
pub record IsSetting (s : Setting) : Type 0 where
  pub network : IsNetwork s.inst.now
  pub few : length (customer_nodes s.inst.now) ≤ most_customers
  pub sets : SetsFit (length (customer_nodes s.inst.now)) s.sets.now

-- start prices that are lowered until no near route earns, with closed labels
pub record IsBegun (g : Network) (sets : List (List ℕ)) (start : List ℕ) (b : Begun) : Type 0 where
  pub lowered : AreLowered g sets start b.prices.items
  pub labels : AreClosedLabels g (terms_at sets b.prices.items) b.labels
  pub met : AreMet g sets b.met.items

-- prices that every near route pays, where that of the customer is 0
pub record IsOpen (g : Network) (sets : List (List ℕ)) (prices : List ℕ) (c : ℕ) : Type 0 where
  pub customer : c < length (customer_nodes g)
  pub count : length prices ≡ length (customer_nodes g)
  pub small : All (λ price. price ≤ greatest_near_price) prices
  pub free : get_or prices c 0 ≡ 0
  pub pays : NearRoutesPay g (terms_at sets prices)

-- the price 1 for one of so many customers, and 0 for each other one
abbrev pub alone : ℕ → ℕ → List ℕ
alone n c = set (replicate n 0) c 1

abbrev pub terms_alone : List (List ℕ) → List ℕ → Terms
terms_alone sets prices = record { weight = 0; prices = prices; sets = sets }

-- closed labels that show that some customer stands on no near route
pub record IsUnserved (g : Network) (sets : List (List ℕ)) (at : ClosedAt) : Type 0 where
  pub number : ℕ
  pub customer : number < length (customer_nodes g)
  pub none : StandsOnNone g sets number
  pub prices : at.prices ≡ alone (length (customer_nodes g)) number
  pub labels : AreClosedLabels g (terms_alone sets at.prices) at.labels

-- a first price from above, by one of the routes, or the customer stands on no near route
abbrev pub IsFirst : Network → List (List ℕ) → List ℕ → ℕ → List MetRoute → First → Type 0
IsFirst g sets prices c met (Limited limit) = IsLimit prices c met limit
IsFirst g sets prices c met (Unserved at) = IsUnserved g sets at

-- the greatest price of a customer at which every near route pays, with a tight route, and with
-- closed labels, unless it is the one that is known to be paid
pub record IsFixed (g : Network) (sets : List (List ℕ)) (prices : List ℕ) (c paid : ℕ)
    (f : Fixed) : Type 0 where
  pub small : f.price ≤ greatest_near_price
  pub labels : IfSome f.labels (AreClosedLabels g (terms_at sets (set prices c f.price)))
  pub same : IfNone f.labels (f.price ≡ paid)
  pub tight : IsTight g (terms_at sets (set prices c f.price)) c f.tight.stops
  pub fits : ColumnFits f.tight

-- a route that is tight where the prices of the customers behind are those to begin with
abbrev pub TightRoute : Network → List (List ℕ) → List ℕ → List ℕ → ℕ → RoutePlan → Type 0
TightRoute g sets base prices c plan =
    IsTight g (terms_at sets (begun_from base prices c (get_or prices c 0))) c plan.stops

-- each of the first n customers has a tight route
abbrev pub AreTightBefore :
    Network → List (List ℕ) → List ℕ → List ℕ → ℕ → List RoutePlan → Type 0
AreTightBefore g sets base prices n tight =
    (c : ℕ) (plan : RoutePlan) → c < n → slice_get tight c ≡ Some plan →
    TightRoute g sets base prices c plan

-- the prices of the first n customers are fixed, and those of the later ones are those to begin
-- with; none is lower than that
pub record IsRising (g : Network) (sets : List (List ℕ)) (base : List ℕ) (n : ℕ)
    (r : Rising) : Type 0 where
  pub base_count : length base ≡ length (customer_nodes g)
  pub count : length r.prices.items ≡ length (customer_nodes g)
  pub small : All (λ price. price ≤ greatest_near_price) r.prices.items
  pub above : (c : ℕ) → get_or base c 0 ≤ get_or r.prices.items c 0
  pub later : (c : ℕ) → n ≤ c → get_or r.prices.items c 0 ≡ get_or base c 0
  pub labels : AreClosedLabels g (terms_at sets r.prices.items) r.labels
  pub one_tight : length r.tight.items ≡ n
  pub tight : AreTightBefore g sets base r.prices.items n r.tight.items
  pub fits : All ColumnFits r.tight.items
  pub met : AreMet g sets r.met.items

-- the prices of all customers are fixed, where they began with lowered start prices
pub record IsRisen (g : Network) (sets : List (List ℕ)) (start : List ℕ) (r : Rising) :
    Type 0 where
  pub base : List ℕ
  pub lowered : AreLowered g sets start base
  pub rising : IsRising g sets base (length (customer_nodes g)) r

-- the prices of all customers are fixed, or some customer stands on no near route
abbrev pub IsRaised : Network → List (List ℕ) → List ℕ → Raised → Type 0
IsRaised g sets start (Priced rising) = IsRisen g sets start rising
IsRaised g sets start (Nowhere at) = IsUnserved g sets at

-- the proof by rising prices, and that by closed labels which show that some customer stands on no
-- near route
abbrev pub proof_of : List (List ℕ) → Rising → NearProof
proof_of sets r = record {
  bound = Some (price_total r.prices.items);
  weight = 1;
  prices = r.prices.items;
  sets = sets;
  labels = r.labels;
  tight = r.tight.items;
}

abbrev pub proof_of_none : List (List ℕ) → ClosedAt → NearProof
proof_of_none sets at = record {
  bound = None;
  weight = 0;
  prices = at.prices;
  sets = sets;
  labels = at.labels;
  tight = [];
}
