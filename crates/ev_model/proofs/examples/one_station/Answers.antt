use Rattle.std.proofs.Common.{refl, rules, arith, [], ◌∷◌}
use Rattle.ev_model.specs.Curve.{charge_time_in}
use Rattle.ev_model.proofs.Fits.{one_station_fits}
use Rattle.ev_model.proofs.examples.one_station.Goals as goal

pub returns-clause-network : goal.returns-clause-network
returns-clause-network c = record {
  depot = search rules;
  few_nodes = search rules;
  energy_rows = search rules;
  time_count = search rules;
  time_rows = search rules;
  process_count = search rules;
  curve_count = search rules;
  plug_count = search rules;
  curves = one_station_fits;
  small_capacity = search rules;
  reserve_within = search rules;
  home_within = search rules;
  small_energies = search rules;
  small_times = search rules;
  small_process_times = search rules;
  small_plug_times = search rules;
  some_denominator = search rules;
  small_denominator = search rules;
  small_limit = search rules;
}

pub returns-clause-route : goal.returns-clause-route
returns-clause-route c = (
  1 ∷ [],
  record {
    ends = refl;
    known = search rules;
    no_depot = search rules;
    moves = search rules;
  },
)

pub returns-clause-before : goal.returns-clause-before
unfolding charge_time_in
returns-clause-before c = refl

pub returns-clause-before_feasible : goal.returns-clause-before_feasible
unfolding charge_time_in
returns-clause-before_feasible c = record { plan = search rules; battery = search rules; in_time = omega arith }

pub returns-clause-after : goal.returns-clause-after
unfolding charge_time_in
returns-clause-after c = refl

pub returns-clause-after_feasible : goal.returns-clause-after_feasible
unfolding charge_time_in
returns-clause-after_feasible c = record { plan = search rules; battery = search rules; in_time = omega arith }

pub returns-clause-halves : goal.returns-clause-halves
unfolding charge_time_in
returns-clause-halves c = refl

pub returns-clause-halves_feasible : goal.returns-clause-halves_feasible
unfolding charge_time_in
returns-clause-halves_feasible c = record { plan = search rules; battery = search rules; in_time = omega arith }
