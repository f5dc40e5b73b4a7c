-- A fastest route for each customer alone.
use Rattle.std.specs.Prelude.{ℕ, List, [], ◌∷◌}
use Rattle.std.specs.List.{Contains}
use Rattle.ev_model.specs.Fastest.{HasNoPlan, IsFastest}
use Rattle.ev_model.specs.Network.{Network}
use Rattle.ev_model.specs.declared.Stop.{Stop}
use Rattle.instance_reader.specs.Instance.{customer_nodes}
use Rattle.route_plan.specs.declared.plan.RoutePlan.{RoutePlan}

-- from the depot to the customer and back
abbrev pub own_route : ℕ → List ℕ
own_route node = 0 ∷ node ∷ 0 ∷ []

-- a fastest plan for the customer alone
abbrev pub IsFastestOwn : Network → ℕ → List Stop → Type 0
IsFastestOwn g node stops = IsFastest g (own_route node) g.capacity stops

-- the customer can't be served alone, in any fraction of a unit
abbrev pub HasNoOwn : Network → ℕ → Type 0
HasNoOwn g node = HasNoPlan g (own_route node) g.capacity

-- a fastest plan for each of the customers alone, in order
abbrev pub AreFastestOwn : Network → List ℕ → List RoutePlan → Type 0
AreFastestOwn g [] [] = Unit {0}
AreFastestOwn g [] (p ∷ ps) = ⊥
AreFastestOwn g (node ∷ nodes) [] = ⊥
AreFastestOwn g (node ∷ nodes) (p ∷ ps) =
    IsFastestOwn g node p.stops × AreFastestOwn g nodes ps

-- some customer can't be served alone
pub record LacksOwn (g : Network) : Type 0 where
  pub node : ℕ
  pub customer : Contains (customer_nodes g) node
  pub none : HasNoOwn g node
