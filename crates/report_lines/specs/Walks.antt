-- The rule that a walk along a plan breaks.
use Rattle.std.specs.Prelude.{ℕ, ◌++◌, List, decimal, codes}
use Rattle.route_plan.specs.declared.walks.WalkFault.{WalkFault}
use Rattle.route_plan.specs.declared.walks.WalkFault.TheVariants as walk

-- the number of the rule that a walk breaks, and the position of the stop that breaks it
abbrev pub walk_text : WalkFault → List ℕ
walk_text walk.Ends = codes "1"
walk_text (walk.Unknown at) = codes "2 at " ++ decimal at
walk_text (walk.Again at) = codes "3 at " ++ decimal at
walk_text (walk.Empty at) = codes "4 at " ++ decimal at
walk_text (walk.NotStation at) = codes "5 at " ++ decimal at
walk_text (walk.Full at) = codes "6 at " ++ decimal at
walk_text (walk.Late at) = codes "7 at " ++ decimal at
