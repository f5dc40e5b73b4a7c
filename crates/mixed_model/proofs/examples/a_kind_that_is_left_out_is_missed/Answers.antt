use Rattle.std.proofs.Common.{ℕ, List, [], ◌∷◌, refl, arith, rules}
use Rattle.std.proofs.lemmas.Int.{ints}
use Rattle.ev_model.specs.Curve.{charge_time_in}
use Rattle.fleet_model.specs.Labels.{Label, state_at}
use Rattle.fleet_model.specs.Steps.{IsHomeStep}
use Rattle.fleet_model.proofs.Test.{closed}
use Rattle.piece_fn.specs.PieceFn.{level_times}
use Rattle.bound_certificate.specs.Meaning.{priced_label}
use Rattle.mixed_model.specs.Examples.{priced_at, two_kinds}
use Rattle.mixed_model.specs.Kinds.{network_of}
use Rattle.mixed_model.specs.Meaning.{section_of}
use Rattle.mixed_model.proofs.examples.a_kind_that_is_left_out_is_missed.Goals as goal

pub returns-clause-alone : goal.returns-clause-alone
unfolding charge_time_in level_times
returns-clause-alone c = closed (network_of two_kinds 0) (section_of (priced_at 8 8) 0) refl

-- the way home from the first customer takes 6 in all
pub returns-clause-refused : goal.returns-clause-refused
unfolding level_times
returns-clause-refused c = λ accepted.
    let p = priced_at 8 8 in
    let l : Label = priced_label p.prices (record { last = 1; node = 1; set = 0 ∷ []; value = (9, 3) ∷ [] }) in
    let step : IsHomeStep (network_of two_kinds 1) (section_of p 1) (state_at l 9) = search rules in
    let home = (accepted.closed 1 (omega arith)).home l 9 (1, search rules, refl) (search rules) step in
    omega (arith, ints, home)
