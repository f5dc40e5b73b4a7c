-- What `fleet` puts: cost, bound and gap, what the root shows, and where a budget ended the search, how many nodes it
-- looked at; or that there is no fleet plan.
use Rattle.std.specs.Prelude.{◌≢◌, ℕ, ℤ, ◌++◌, ◌∷◌, [], List, Option, None, Some, codes}
use Rattle.report_lines.specs.Fractions.{IsLowest, IsReduced, fraction_text}
use Rattle.report_lines.specs.Lines.{IsBoundOf, bounds_text, infeasible_line, number_line}
use Rattle.plan_writer.specs.declared.fleet.Outcomes.{Outcomes}
use Rattle.plan_writer.specs.declared.fleet.RootLine.{RootLine}
use Rattle.plan_writer.specs.declared.fleet.RootLine.TheVariants.{Empty, Exact, Wide}

-- the line of an exact root whose price sum is this whole number, over the product of weight and denominator
abbrev pub IsExactLine : ℤ → ℕ → RootLine → Type 0
IsExactLine sum product (Exact p q) = IsReduced sum product p q
IsExactLine sum product other = ⊥

-- the fraction of an exact root is in lowest terms
abbrev pub IsLowestLine : RootLine → Type 0
IsLowestLine (Exact p q) = IsLowest p q
IsLowestLine other = Unit {0}

-- where the first stands, the second does too
abbrev pub StandsBeside : Option ℕ → Option ℕ → Type 0
StandsBeside (Some cost) None = ⊥
StandsBeside cost bound = Unit {0}

-- a bound stands beside a root that shows something
abbrev pub StandsBesideRoot : Option ℕ → RootLine → Type 0
StandsBesideRoot None root = Unit {0}
StandsBesideRoot (Some bound) root = root ≢ Empty

-- a cost is no less than the bound and stands only beside one, a bound stands only beside a root, and the fraction of an exact
-- root is in lowest terms
pub record AreOutcomes (o : Outcomes) : Type 0 where
  pub bound : IsBoundOf o.cost o.bound
  pub beside : StandsBeside o.cost o.bound
  pub root : StandsBesideRoot o.bound o.root
  pub lowest : IsLowestLine o.root

-- no line where nothing is shown, as where there is no fleet plan
abbrev pub root_line : RootLine → List ℕ
root_line Empty = []
root_line (Exact p q) =
    codes "root exact " ++ fraction_text p q ++ 10 ∷ []
root_line Wide = codes "root wide" ++ 10 ∷ []

-- how many nodes were looked at where the budget ended the search
abbrev pub nodes_line : Option ℕ → List ℕ
nodes_line None = []
nodes_line (Some nodes) = number_line (codes "nodes ") nodes

-- the report with this bound; where there is none, no fleet plan is feasible
abbrev pub report_text : ℕ → Outcomes → Option ℕ → List ℕ
report_text denominator o None = infeasible_line
report_text denominator o (Some bound) =
    bounds_text denominator o.cost (Some bound) ++ root_line o.root ++ nodes_line o.stopped

abbrev pub fleet_text : ℕ → Outcomes → List ℕ
fleet_text denominator o = report_text denominator o o.bound
