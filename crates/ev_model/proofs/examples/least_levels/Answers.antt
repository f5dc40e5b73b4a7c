use Rattle.std.proofs.Common.{refl, rules, arith}
use Rattle.ev_model.specs.Curve.{charge_time_in}
use Rattle.ev_model.proofs.Fits.{one_station_fits}
use Rattle.ev_model.proofs.examples.least_levels.Goals as goal

pub returns-clause-reserve : goal.returns-clause-reserve
returns-clause-reserve c = record {
  depot = search rules;
  few_nodes = search rules;
  energy_rows = search rules;
  time_count = search rules;
  time_rows = search rules;
  process_count = search rules;
  curve_count = search rules;
  plug_count = search rules;
  curves = one_station_fits;
  small_capacity = search rules;
  reserve_within = search rules;
  home_within = search rules;
  small_energies = search rules;
  small_times = search rules;
  small_process_times = search rules;
  small_plug_times = search rules;
  some_denominator = search rules;
  small_denominator = search rules;
  small_limit = search rules;
}

pub returns-clause-at_the_reserve : goal.returns-clause-at_the_reserve
unfolding charge_time_in
returns-clause-at_the_reserve c = record { plan = search rules; battery = search rules; in_time = omega arith }

pub returns-clause-at_the_reserve_time : goal.returns-clause-at_the_reserve_time
unfolding charge_time_in
returns-clause-at_the_reserve_time c = refl

pub returns-clause-home_level : goal.returns-clause-home_level
returns-clause-home_level c = record {
  depot = search rules;
  few_nodes = search rules;
  energy_rows = search rules;
  time_count = search rules;
  time_rows = search rules;
  process_count = search rules;
  curve_count = search rules;
  plug_count = search rules;
  curves = one_station_fits;
  small_capacity = search rules;
  reserve_within = search rules;
  home_within = search rules;
  small_energies = search rules;
  small_times = search rules;
  small_process_times = search rules;
  small_plug_times = search rules;
  some_denominator = search rules;
  small_denominator = search rules;
  small_limit = search rules;
}

pub returns-clause-enough_at_home : goal.returns-clause-enough_at_home
unfolding charge_time_in
returns-clause-enough_at_home c = record { plan = search rules; battery = search rules; in_time = omega arith }

pub returns-clause-enough_at_home_time : goal.returns-clause-enough_at_home_time
unfolding charge_time_in
returns-clause-enough_at_home_time c = refl

pub returns-clause-empty_on_the_way : goal.returns-clause-empty_on_the_way
unfolding charge_time_in
returns-clause-empty_on_the_way c = record { plan = search rules; battery = search rules; in_time = omega arith }
