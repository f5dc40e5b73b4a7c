use Rattle.std.proofs.Common.{◌≡◌, drop}
use Rattle.schedule_texts.specs.Latest.{latest_in}
use Rattle.schedule_texts.proofs.latest.latest_in.Given as goal

abbrev pub invariant-loop-visit : goal.invariant-loop-visit
invariant-loop-visit l = latest_in l.latest (drop l.visit-index l.visits) ≡ latest_in l.time l.visits
