use Rattle.std.proofs.Common.{refl, rules, arith}
use Rattle.ev_model.specs.Curve.{charge_time_in}
use Rattle.ev_model.proofs.Fits.{one_station_fits}
use Rattle.ev_model.proofs.examples.plugging_in_takes_time.Goals as goal

pub returns-clause-network : goal.returns-clause-network
returns-clause-network c = record {
  depot = search rules;
  few_nodes = search rules;
  energy_rows = search rules;
  time_count = search rules;
  time_rows = search rules;
  process_count = search rules;
  curve_count = search rules;
  plug_count = search rules;
  curves = one_station_fits;
  small_capacity = search rules;
  reserve_within = search rules;
  home_within = search rules;
  small_energies = search rules;
  small_times = search rules;
  small_process_times = search rules;
  small_plug_times = search rules;
  some_denominator = search rules;
  small_denominator = search rules;
  small_limit = search rules;
}

pub returns-clause-paid_once : goal.returns-clause-paid_once
unfolding charge_time_in
returns-clause-paid_once c = refl

pub returns-clause-halves : goal.returns-clause-halves
unfolding charge_time_in
returns-clause-halves c = refl

pub returns-clause-halves_feasible : goal.returns-clause-halves_feasible
unfolding charge_time_in
returns-clause-halves_feasible c = record { plan = search rules; battery = search rules; in_time = omega arith }

pub returns-clause-down : goal.returns-clause-down
unfolding charge_time_in
returns-clause-down c = refl

pub returns-clause-up : goal.returns-clause-up
unfolding charge_time_in
returns-clause-up c = refl
