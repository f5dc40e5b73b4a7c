use Rattle.std.proofs.Common.{◌≡◌, drop}
use Rattle.schedule_texts.specs.Scales.{most_stops}
use Rattle.schedule_texts.proofs.picture.scale.most_stops.Given as goal

abbrev pub invariant-loop-route : goal.invariant-loop-route
invariant-loop-route l = most_stops l.most (drop l.route-index l.routes) ≡ most_stops 0 l.routes
