use Rattle.std.proofs.Common.{subst, ◌↔◌, ℕ, List}
use Rattle.std.specs.List.{Contains}
use Rattle.ev_model.proofs.Visits.{HasStopAt, visits_exactly}
use Rattle.ev_model.proofs.laws.plan_visits_its_route.Goals as goal

pub returns : goal.returns
returns c = λ route stops node follows. subst (λ (r : List ℕ). Contains r node ↔ HasStopAt stops node) follows (visits_exactly stops node)
