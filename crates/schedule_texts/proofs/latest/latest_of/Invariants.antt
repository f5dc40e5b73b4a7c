use Rattle.std.proofs.Common.{◌≡◌, drop}
use Rattle.schedule_texts.specs.Latest.{latest_of}
use Rattle.schedule_texts.proofs.latest.latest_of.Given as goal

abbrev pub invariant-loop-route : goal.invariant-loop-route
invariant-loop-route l = latest_of l.latest (drop l.route-index l.routes) ≡ latest_of 0 l.routes
