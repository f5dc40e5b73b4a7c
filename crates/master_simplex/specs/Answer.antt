-- What the method answers: a linear optimum of the master problem over its added columns, or a ray, which shows that
-- they have no cover (linear duality and Farkas' lemma: Schrijver 1986, section 7).
use Rattle.std.specs.Prelude.{◌≡◌, ℕ, ◌+◌, ◌*◌, ◌<◌, ◌≤◌, ℤ, pos, ◌*ℤ◌, ◌<ℤ◌, ◌≤ℤ◌, ◌⊎◌, cond, unsigned_abs, All, List, [], ◌∷◌, get_or, length, ◌≢◌}
use Rattle.fleet_model.specs.Equations.{Column, column_at, cost_of, entry, right_side, serves}
use Rattle.fleet_model.specs.Basis.{IsHelperList, IsPriceList, IsShareWeight}
use Rattle.master_table.specs.Tableau.{Tableau, basis_columns, size}
use Rattle.master_simplex.specs.declared.prices.Lp.{Lp}

-- the sum of the shares of the columns that have the customer
abbrev pub covered : List Column → List (ℕ × ℕ) → ℕ → ℕ
covered columns [] c = 0
covered columns (x ∷ shares) c =
    cond (serves (column_at columns x.0) c) x.1 0 + covered columns shares c

-- the sum of share times cost
abbrev pub cost_of_shares : List Column → List (ℕ × ℕ) → ℕ
cost_of_shares columns [] = 0
cost_of_shares columns (x ∷ shares) =
    x.1 * cost_of (column_at columns x.0) + cost_of_shares columns shares

-- an added column of the table, and no helper
abbrev pub IsAdded : Tableau → ℕ → Type 0
IsAdded t j = (size t ≤ j) × (j < length t.columns)

-- shares of added columns that, divided by `over`, cover each customer exactly once
pub record IsCover (t : Tableau) (over : ℕ) (shares : List (ℕ × ℕ)) : Type 0 where
  pub some : 0 < over
  pub added : All (λ x. IsAdded t x.0) shares
  pub exact : (c : ℕ) → c < size t → covered t.columns shares c ≡ over

-- a price for each customer, of which no added column has more than its cost times the weight
pub record ArePrices (t : Tableau) (weight : ℕ) (prices : List ℤ) : Type 0 where
  pub whole : length prices ≡ size t
  pub paid : (j : ℕ) → IsAdded t j →
      entry prices (column_at t.columns j) ≤ℤ pos (weight * cost_of (column_at t.columns j))

-- a linear optimum: a cover, and prices of a weight above 0 that show that no cover costs less, since the cost of the cover
-- is the price sum divided by the weight
pub record IsOptimum (t : Tableau) (weight : ℕ) (prices : List ℤ)
    (over : ℕ) (shares : List (ℕ × ℕ)) : Type 0 where
  pub weighty : 0 < weight
  pub priced : ArePrices t weight prices
  pub cover : IsCover t over shares
  pub cost : pos (weight * cost_of_shares t.columns shares) ≡ pos over *ℤ right_side prices

-- a ray: prices of weight 0, so that no added column has more than 0, with a sum above 0
pub record IsRay (t : Tableau) (weight : ℕ) (prices : List ℤ)
    (over : ℕ) (shares : List (ℕ × ℕ)) : Type 0 where
  pub weightless : weight ≡ 0
  pub priced : ArePrices t 0 prices
  pub above : pos 0 <ℤ right_side prices
  pub nowhere : over ≡ 0
  pub empty : shares ≡ []

abbrev pub IsAnswer : Tableau → Lp → Type 0
IsAnswer t lp =
    IsOptimum t lp.weight lp.prices.items lp.over lp.shares.items
    ⊎ IsRay t lp.weight lp.prices.items lp.over lp.shares.items

-- no two shares are of the same column
abbrev pub AreApart : List (ℕ × ℕ) → Type 0
AreApart shares =
    (i j : ℕ) (d e : ℕ × ℕ) → i < j → j < length shares →
    (get_or shares i d).0 ≢ (get_or shares j e).0

-- the answer's numbers are within the table's caps, and its shares are above 0, at most `over` and of different columns
pub record IsLpWithin (t : Tableau) (lp : Lp) : Type 0 where
  pub weight : lp.weight ≤ t.caps.body
  pub prices : All (λ p. unsigned_abs p ≤ t.caps.cost) lp.prices.items
  pub over : lp.over ≤ t.caps.body
  pub shares : All (λ x. (0 < x.1) × (x.1 ≤ lp.over)) lp.shares.items
  pub apart : AreApart lp.shares.items

-- the answer belongs to the table's basis: an optimum is its price list, of least weight, and its share weight, the least too;
-- a ray is its helper list
pub record IsOfBasis (t : Tableau) (lp : Lp) : Type 0 where
  pub list : 0 < lp.weight → IsPriceList (size t) (basis_columns t) (pos lp.weight) lp.prices.items
  pub whole : 0 < lp.weight → IsShareWeight (size t) (basis_columns t) lp.over
  pub ray : lp.weight ≡ 0 → (v : ℤ) × IsHelperList (size t) (basis_columns t) v lp.prices.items
