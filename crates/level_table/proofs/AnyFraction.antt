-- Among the plans in any fraction of a unit of charge, no plan is faster than a fastest whole plan.
use Rattle.std.proofs.Common.{ℕ, List}
use Rattle.ev_model.specs.Fastest.{HasNoPlan, IsFastest}
use Rattle.ev_model.specs.Network.{IsNetwork, Network}
use Rattle.ev_model.specs.declared.Stop.{Stop}
use Rattle.level_table.specs.Answer.{HasNoWholePlan, IsFastestWhole}
use Rattle.rounding_law.proofs.Whole.{fastest_whole_is_fastest, no_whole_plan_no_plan}

pub fastest-in_any_fraction : (g : Network) (route : List ℕ) (start : ℕ) (stops : List Stop) → IsNetwork g → IsFastestWhole g route start stops → IsFastest g route start stops
fastest-in_any_fraction g route start stops network whole = fastest_whole_is_fastest g route start stops network whole.feasible whole.follows whole.fastest

pub none-in_any_fraction : (g : Network) (route : List ℕ) (start : ℕ) → IsNetwork g → HasNoWholePlan g route start → HasNoPlan g route start
none-in_any_fraction g route start network none = no_whole_plan_no_plan g route start network none
