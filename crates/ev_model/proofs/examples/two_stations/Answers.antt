use Rattle.std.proofs.Common.{refl, rules, arith}
use Rattle.ev_model.specs.Curve.{charge_time_in}
use Rattle.ev_model.proofs.Fits.{two_stations_fit}
use Rattle.ev_model.proofs.examples.two_stations.Goals as goal

pub returns-clause-network : goal.returns-clause-network
returns-clause-network c = record {
  depot = search rules;
  few_nodes = search rules;
  energy_rows = search rules;
  time_count = search rules;
  time_rows = search rules;
  process_count = search rules;
  curve_count = search rules;
  plug_count = search rules;
  curves = two_stations_fit;
  small_capacity = search rules;
  reserve_within = search rules;
  home_within = search rules;
  small_energies = search rules;
  small_times = search rules;
  small_process_times = search rules;
  small_plug_times = search rules;
  some_denominator = search rules;
  small_denominator = search rules;
  small_limit = search rules;
}

pub returns-clause-time : goal.returns-clause-time
unfolding charge_time_in
returns-clause-time c = refl

pub returns-clause-feasible : goal.returns-clause-feasible
unfolding charge_time_in
returns-clause-feasible c = record { plan = search rules; battery = search rules; in_time = omega arith }
