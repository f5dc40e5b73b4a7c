-- What contracts see of the states of a target that are asked.
use Rattle.std.specs.Prelude.{◌≤◌}
use Rattle.near_proof.specs.Links.{AreEntries}
use Rattle.near_proof.specs.Targets.{Asking}
use Rattle.near_proof.specs.declared.coverage.Asked.TheInside.{Inside}

abbrev pub asking : Inside → Asking
asking a = record { weight = a.weight; labels = a.labels.now; target = a.target }

pub record IsAsked (a : Inside) : Type 0 where
  pub weight : a.weight ≤ 1
  pub entries : AreEntries a.labels.now a.entries.now
