-- Vehicles at a place, asked of labels under a bar.
use Rattle.std.specs.Prelude.{ℕ, ◌<◌}
use Rattle.route_steps.specs.Ways.{Leaving}
use Rattle.route_steps.specs.declared.state.Place.{Place}
use Rattle.route_proof.specs.Covered.{IsCovered}
use Rattle.route_proof.specs.Questions.{Question}

-- the vehicle at a place with a level at a time
abbrev pub vehicle : Place → ℕ → ℕ → Leaving
vehicle p level time =
    record { passed = p.passed; node = p.node; level = level; time = time }

-- below the bar the vehicle is covered
abbrev pub covers : Question → Place → ℕ → ℕ → Type 0
covers q p level time = time < q.bar → IsCovered q.labels (vehicle p level time)
