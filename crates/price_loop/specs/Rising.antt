-- Rising prices, as whole numbers: fixed customer by customer.
use Rattle.std.specs.Prelude.{◌≡◌, ℕ, suc, ◌+◌, ◌*◌, ◌^◌, ◌<◌, ◌≤◌, List, [], ◌∷◌, ◌++◌, get_or, length, map, pos, replicate, set, take, ℤ, unsigned_abs}
use Rattle.std.specs.List.{All}
use Rattle.ev_model.specs.Fleet.{times_in}
use Rattle.price_loop.specs.Problems.{Problem, worth}
use Rattle.price_loop.specs.declared.rising.Risen.{Risen}
use Rattle.price_loop.specs.declared.rising.Risen.TheVariants.{Priced, Nowhere}

-- each route costs less
abbrev pub CostLess : {R C : Type 0} → Problem R C → ℕ → Type 0
CostLess {R} q top = (r : R) → q.is_route r → q.cost r < top

-- no route is worth more than its cost, times the weight
abbrev pub ArePayable : {R C : Type 0} → Problem R C → ℕ → List ℕ → Type 0
ArePayable {R} q weight of =
    (r : R) → q.is_route r → worth of (q.served r) ≤ weight * q.cost r

-- some route is worth so much more than its cost
pub record HasExcess {R C : Type 0} (q : Problem R C) (of : List ℕ) (excess : ℕ) : Type 0 where
  pub route : R
  pub is_route : q.is_route route
  pub some : 0 < excess
  pub more : q.cost route + excess ≡ worth of (q.served route)

-- the customer stands on no route
abbrev pub StandsNowhere : {R C : Type 0} → Problem R C → ℕ → Type 0
StandsNowhere {R} q c = (r : R) → q.is_route r → times_in (q.served r) c ≡ 0

-- the price of customer c is the greatest that is payable with those of the customers before, and 0 for later ones
pub record IsFixed {R C : Type 0} (q : Problem R C) (of : List ℕ) (c : ℕ) : Type 0 where
  pub payable : ArePayable q 1 (take (suc c) of)
  pub greatest : (price : ℕ) → ArePayable q 1 (take c of ++ price ∷ []) → price ≤ get_or of c 0

-- the prices of the first c customers are fixed, and those of the later ones are 0
pub record AreFixed {R C : Type 0} (q : Problem R C) (of : List ℕ) (c : ℕ) : Type 0 where
  pub count : length of ≡ q.customers
  pub fixed : (j : ℕ) → j < c → IsFixed q of j
  pub later : (j : ℕ) → c ≤ j → get_or of j 0 ≡ 0
  pub payable : ArePayable q 1 of

-- the rising prices, and what shows that at weight 1 no route earns at them
pub record IsPricedByRising {R C : Type 0} (q : Problem R C) (prices : List ℤ)
    (closing : C) : Type 0 where
  pub of : List ℕ
  pub fixed : AreFixed q of q.customers
  pub prices_are : prices ≡ map pos of
  pub small : All (λ price. unsigned_abs price ≤ 2 ^ 84) prices
  pub closes : q.closes 1 prices closing

-- the customer stands on no route, and it shows that at a price of 1 for him alone, and cost for nothing, none earns
pub record IsNowhere {R C : Type 0} (q : Problem R C) (customer : ℕ) (prices : List ℤ)
    (closing : C) : Type 0 where
  pub within : customer < q.customers
  pub nowhere : StandsNowhere q customer
  pub prices_are : prices ≡ map pos (set (replicate q.customers 0) customer 1)
  pub small : All (λ price. unsigned_abs price ≤ 2 ^ 84) prices
  pub closes : q.closes 0 prices closing

abbrev pub IsRisen : {R C : Type 0} → Problem R C → Risen C → Type 0
IsRisen q (Priced prices closing) = IsPricedByRising q prices.items closing
IsRisen q (Nowhere customer prices closing) = IsNowhere q customer prices.items closing
