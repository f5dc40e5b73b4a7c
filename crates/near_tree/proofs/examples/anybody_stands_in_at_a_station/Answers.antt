use Rattle.std.proofs.Common.{refl, Some}
use Rattle.ev_model.specs.Curve.{charge_time_in}
use Rattle.near_tree.specs.Examples.Shortcut.{by_pair, shortcut}
use Rattle.near_tree.proofs.Test.{accepted}
use Rattle.near_tree.proofs.examples.anybody_stands_in_at_a_station.Goals as goal

pub returns-clause-bound : goal.returns-clause-bound
unfolding charge_time_in
returns-clause-bound c = accepted shortcut (Some 16) by_pair refl
