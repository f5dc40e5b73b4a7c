-- Routes of one customer alone, by vehicles of any kind.
use Rattle.std.specs.Prelude.{◌≡◌, ℕ, ◌*◌, ◌<◌, ◌≤◌, List, [], ◌∷◌, Option, None, Some, false, length, nat_lt, true, if◌then◌else◌}
use Rattle.std.specs.List.{Contains}
use Rattle.ev_model.specs.Fastest.{HasNoPlan, IsFastest}
use Rattle.ev_model.specs.Network.{Network}
use Rattle.ev_model.specs.Route.{FollowsRoute}
use Rattle.mixed_model.specs.Plans.{IsFeasibleIn, KindPlan, time_in}
use Rattle.mixed_fleet.specs.Searched.{IsSearched, searched_of}
use Rattle.mixed_fleet.specs.declared.own.OwnRoutes.{OwnRoutes}
use Rattle.mixed_fleet.specs.declared.searched.Searched.{Searched}

-- from the depot to the customer and back
abbrev pub own_way : ℕ → List ℕ
own_way node = 0 ∷ node ∷ 0 ∷ []

-- a feasible plan in kths of a vehicle of some kind for the customer alone
pub record IsOwn (kinds : List Network) (k node : ℕ) (p : KindPlan) : Type 0 where
  pub known : p.kind < length kinds
  pub feasible : IsFeasibleIn kinds k p
  pub follows : FollowsRoute (own_way node) p.stops

-- a feasible plan in kths for each of the customers alone, in order, each of some kind
abbrev pub AreOwn : List Network → ℕ → List ℕ → List KindPlan → Type 0
AreOwn kinds k [] [] = Unit {0}
AreOwn kinds k [] (p ∷ ps) = ⊥
AreOwn kinds k (node ∷ nodes) [] = ⊥
AreOwn kinds k (node ∷ nodes) (p ∷ ps) = IsOwn kinds k node p × AreOwn kinds k nodes ps

-- ---- of one kind
-- a fastest plan of a vehicle of a kind for the customer alone; none where there is none, in any
-- fraction of a unit
abbrev pub IsOwnBy : Network → ℕ → ℕ → Option Searched → Type 0
IsOwnBy g kind node None = HasNoPlan g (own_way node) g.capacity
IsOwnBy g kind node (Some r) =
    IsFastest g (own_way node) g.capacity r.route.plan.stops
    × (r ≡ searched_of g kind (node ∷ []) r.route.plan)

-- the one that takes less time, and of equal ones the first
abbrev pub faster_of : Option Searched → Option Searched → Option Searched
faster_of None other = other
faster_of (Some r) None = Some r
faster_of (Some r) (Some s) = if nat_lt s.time r.time then Some s else Some r

-- ---- of the first kinds, so many of them
-- a whole plan for the customer alone than which none of these kinds takes less, in any fraction of
-- a unit
pub record IsLeastOwn (kinds : List Network) (count node : ℕ) (r : Searched) : Type 0 where
  pub searched : IsSearched kinds r
  pub follows : FollowsRoute (own_way node) r.route.plan.stops
  pub least : (k : ℕ) (p : KindPlan) → p.kind < count → IsOwn kinds k node p →
      k * r.time ≤ time_in kinds k p

-- there is one, or no vehicle of these kinds can serve the customer alone
abbrev pub IsLeastBelow : List Network → ℕ → ℕ → Option Searched → Type 0
IsLeastBelow kinds count node None =
    (k : ℕ) (p : KindPlan) → p.kind < count → IsOwn kinds k node p → ⊥
IsLeastBelow kinds count node (Some r) = IsLeastOwn kinds count node r

-- ---- for all customers
-- a least plan for each of the customers alone, in order
abbrev pub AreLeastOwn : List Network → List ℕ → List Searched → Type 0
AreLeastOwn kinds [] [] = Unit {0}
AreLeastOwn kinds [] (r ∷ rs) = ⊥
AreLeastOwn kinds (node ∷ nodes) [] = ⊥
AreLeastOwn kinds (node ∷ nodes) (r ∷ rs) =
    IsLeastOwn kinds (length kinds) node r × AreLeastOwn kinds nodes rs

-- some customer can't be served alone, by a vehicle of any kind
pub record LacksOwn (kinds : List Network) (nodes : List ℕ) : Type 0 where
  pub node : ℕ
  pub customer : Contains nodes node
  pub none : IsLeastBelow kinds (length kinds) node None

-- the routes are those of the first customers, unless some customer has none
pub record AreOwnOf (kinds : List Network) (all nodes : List ℕ) (own : OwnRoutes) : Type 0 where
  pub whole : own.whole ≡ true → AreLeastOwn kinds nodes own.routes.items
  pub lacks : own.whole ≡ false → LacksOwn kinds all
