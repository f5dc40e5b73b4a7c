-- What holds of the labels of free routes under a question.
use Rattle.std.specs.Prelude.{◌≡◌}
use Rattle.pricing.specs.Labels.{IsSound}
use Rattle.pricing.specs.declared.labels.RouteLabels.TheInside.{Inside}

-- the question is sound, and about the instance and the pairs
pub record IsSoundInside (r : Inside) : Type 0 where
  pub sound : IsSound r.question
  pub network : r.inst.now ≡ r.question.network
  pub pairs : r.pairs.now ≡ r.question.pairs
